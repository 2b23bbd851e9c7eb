-- `registers::write_register` meets its contract: refused, or register by register.
-- Assumes nothing.
use Prim.Native.Nat.{ℕ}
use mathlib.Core.Path.{refl, ap, ◌∙◌}
use mathlib.Core.List.{List}
use native.Mathlib.Omega.{arith}
use borrow.Author.Rules.{rules}
use Rattle.parts.specs.declared.event.Event.{Event}
use Rattle.parts.specs.declared.interrupts.Interrupts.{Interrupts}
use Rattle.card.specs.Cards.{answer, with_time_latch, with_event, with_interrupts}
use Rattle.card.specs.Registers.{written}
use Rattle.card.proofs.registers.Laws.{time_lawful_lem, queue_within, fifo_room, write_passed, write_done, write_stops, writes_interrupts}
use Rattle.card.proofs.registers.write_register.Goals as goal

pub returns-in-Err : goal.returns-in-Err
returns-in-Err c = rw c.refused.ensures (write_stops _ _ _ _ _ c.is_lawful.ensures c.may_write.ensures _ c.in-Err.is)

pub words_at-c-requires : goal.words_at-c-requires
words_at-c-requires c = time_lawful_lem _ (write_passed c.args.card c.args.reg c.args.value _ _ c.is_lawful.ensures c.may_write.ensures _ c.in_default.is).0

pub bounds-c-fill : goal.bounds-c-fill
bounds-c-fill c = fifo_room _ _ (write_passed c.args.card c.args.reg c.args.value _ _ c.is_lawful.ensures c.may_write.ensures _ c.in_default.is) c.in-13.is

pub overflow_add-c : goal.overflow_add-c
overflow_add-c c = omega (arith, fifo_room _ _ (write_passed c.args.card c.args.reg c.args.value _ _ c.is_lawful.ensures c.may_write.ensures _ c.in_default.is) c.in-13.is)

pub returns-in-0 : goal.returns-in-0
unfolding written
returns-in-0 c =
    write_done _ _ _ _ _ c.is_lawful.ensures c.may_write.ensures _ c.in_default.is _ c.in-0.is _
    (ap (λ (l : List ℕ). answer (with_time_latch c.args.card l) 0) c.words_at-c.ensures)

pub returns-in-11 : goal.returns-in-11
unfolding written
returns-in-11 c =
    write_done _ _ _ _ _ c.is_lawful.ensures c.may_write.ensures _ c.in_default.is _ c.in-11.is _
    (ap (λ (e : Event). answer (with_event c.args.card e) 0) c.write_control-c.ensures)

pub acknowledge-requires : goal.acknowledge-requires
acknowledge-requires c = queue_within _ (write_passed c.args.card c.args.reg c.args.value _ _ c.is_lawful.ensures c.may_write.ensures _ c.in_default.is).0

pub returns-in-12 : goal.returns-in-12
unfolding written
returns-in-12 c = write_done _ _ _ _ _ c.is_lawful.ensures c.may_write.ensures _ c.in_default.is _ c.in-12.is _ c.acknowledge.ensures

pub returns-in-13 : goal.returns-in-13
unfolding written
returns-in-13 c = write_done _ _ _ _ _ c.is_lawful.ensures c.may_write.ensures _ c.in_default.is _ c.in-13.is _ refl

pub returns-in-18 : goal.returns-in-18
unfolding written
returns-in-18 c =
    write_done _ _ _ _ _ c.is_lawful.ensures c.may_write.ensures _ c.in_default.is _ c.in-18.is _
    (ap (λ (e : Event). answer (with_event c.args.card e) 0) c.open_latch-c.ensures)

pub returns-in_default-reg : goal.returns-in_default-reg
returns-in_default-reg c =
    let s = c.args in
    write_done _ _ _ _ _ c.is_lawful.ensures c.may_write.ensures _ c.in_default.is s.reg refl _
    (ap (λ (i : Interrupts). answer (with_interrupts s.card i) 0) c.write_interrupts-c.ensures
    ∙ writes_interrupts s.card s.reg s.value (search rules) (search rules) (search rules) (search rules) (search rules))
