-- Every call leaves a lawful card lawful, and a fresh card is: so no chain of calls leads out. By the cases of Outcomes, part by part. Assumes nothing.
use Prim.Native.Nat.{ℕ, ◌%◌}
use mathlib.Core.Path.{◌≡◌, refl}
use mathlib.Core.Bool.{Bool, true, false}
use mathlib.Core.List.{List, [], ◌∷◌}
use native.Mathlib.Omega.{arith}
use lib.Dec.{lit<}
use lib.ListN.{length}
use Rattle.wire.specs.Numbers.{given}
use Rattle.wire.specs.Packets.{packet_in}
use Rattle.wire.specs.declared.packets.ClockSource.TheVariants as ClockSource
use Rattle.wire.proofs.packets.Read.{reads_in}
use Rattle.wire.proofs.packets.RoundTrip.{written_read}
use Rattle.clock.specs.declared.time.Time.{Time}
use Rattle.clock.specs.declared.clock.Clock.{Clock}
use Rattle.clock.specs.Time.{time_lawful}
use Rattle.clock.specs.Clocks.{clock_lawful}
use Rattle.clock.specs.Waiting.{listed, passed, fell, wait_lines}
use Rattle.clock.proofs.lawful.Stays
use Rattle.parts.specs.declared.queue.Queue.{Queue}
use Rattle.parts.specs.declared.event.Event.{Event}
use Rattle.parts.specs.declared.settings.Settings.{Settings}
use Rattle.parts.specs.declared.interrupts.Interrupts.{Interrupts}
use Rattle.parts.specs.Events.{latch_lawful, event_lawful}
use Rattle.parts.specs.Interrupts.{interrupts_lawful}
use Rattle.parts.specs.Pending.{bit}
use Rattle.parts.specs.Queues.{queue_lawful, empty_queue, queued}
use Rattle.parts.specs.Settings.{settings_lawful, jam_fits}
use Rattle.parts.proofs.event.Laws.{read_lawful, zero_lawful, reset_lawful as event-reset, control_lawful_lem, opened_lawful, edge_lawful}
use Rattle.parts.proofs.interrupts.Laws.{Ranges, ranges, within}
use Rattle.parts.proofs.interrupts.Bits.{raised_below, sources_below, cleared_within}
use Rattle.parts.proofs.queue.Laws.{empty_lawful, enqueued_lawful}
use Rattle.parts.proofs.saved.RoundTrip.{loaded_lawful}
use Rattle.parts.proofs.settings.Laws.{settings_lawful_lem, applied_lawful, applied_jam}
use Rattle.parts.proofs.settings.Laws as settings
use Rattle.card.specs.declared.card.Card.{Card}
use Rattle.card.specs.Cards.{with_clock, with_time_latch, with_event, with_interrupts, with_done, with_jam, with_queue, with_settings}
use Rattle.card.specs.Lawful.{lawful}
use Rattle.card.specs.Registers.{words_now}
use Rattle.card.specs.Waiting.{wait_refusal, card_after}
use Rattle.card.specs.Reset.{reset_card, fresh_card}
use Rattle.card.proofs.blocks.Laws.{filled_lawful}
use Rattle.card.proofs.lawful.Laws.{Parts, parts, whole}
use Rattle.card.proofs.Ack.{ack_accepts}
use Rattle.card.proofs.registers.Laws.{time_lawful_lem, words_read}
use Rattle.laws.specs.Calls.{Call, after, after_all}
use Rattle.laws.specs.Refusals.{Excepted}
use Rattle.laws.proofs.Outcomes.{Effect, Outcome, by, found_effect, outcome}

-- ---- one part changed

module _ (c : Card) (h : lawful c ≡ true) where
  abbrev p : Parts c
  p = parts c h

  pub keeps_clock : (k : Clock) → clock_lawful k ≡ true → lawful (with_clock c k) ≡ true
  keeps_clock k e = whole _ (record { interrupts = p.interrupts; event = p.event; time_latch = p.time_latch; settings = p.settings; jam = p.jam; queue = p.queue; clock = e })

  keeps_time_latch : (ws : List ℕ) → latch_lawful ws ≡ true → lawful (with_time_latch c ws) ≡ true
  keeps_time_latch ws e = whole _ (record { interrupts = p.interrupts; event = p.event; time_latch = e; settings = p.settings; jam = p.jam; queue = p.queue; clock = p.clock })

  keeps_event : (v : Event) → event_lawful v ≡ true → lawful (with_event c v) ≡ true
  keeps_event v e = whole _ (record { interrupts = p.interrupts; event = e; time_latch = p.time_latch; settings = p.settings; jam = p.jam; queue = p.queue; clock = p.clock })

  keeps_interrupts : (i : Interrupts) → interrupts_lawful i ≡ true → lawful (with_interrupts c i) ≡ true
  keeps_interrupts i e = whole _ (record { interrupts = e; event = p.event; time_latch = p.time_latch; settings = p.settings; jam = p.jam; queue = p.queue; clock = p.clock })

  keeps_settings : (s : Settings) → settings_lawful s ≡ true → jam_fits c.jam s ≡ true → lawful (with_settings c s) ≡ true
  keeps_settings s e j = whole _ (record { interrupts = p.interrupts; event = p.event; time_latch = p.time_latch; settings = e; jam = j; queue = p.queue; clock = p.clock })

  keeps_jam : (on : Bool) → jam_fits on c.settings ≡ true → lawful (with_jam c on) ≡ true
  keeps_jam on j = whole _ (record { interrupts = p.interrupts; event = p.event; time_latch = p.time_latch; settings = p.settings; jam = j; queue = p.queue; clock = p.clock })

  pub keeps_queue : (q : Queue) → queue_lawful q ≡ true → lawful (with_queue c q) ≡ true
  keeps_queue q e = whole _ (record { interrupts = p.interrupts; event = p.event; time_latch = p.time_latch; settings = p.settings; jam = p.jam; queue = e; clock = p.clock })

  -- the done bit may be anything
  keeps_done : (done : Bool) → lawful (with_done c done) ≡ true
  keeps_done done = whole _ (record { interrupts = p.interrupts; event = p.event; time_latch = p.time_latch; settings = p.settings; jam = p.jam; queue = p.queue; clock = p.clock })

-- ---- the event input and the latches

-- words of a lawful card's time can be read
words_lawful : (c : Card) → lawful c ≡ true → latch_lawful (words_now c) ≡ true
words_lawful c h = read_lawful (words_now c) _ (words_read c.clock.time (time_lawful_lem c h))

-- ---- waiting and reset

wait_accepted : (c : Card) (n room : ℕ) → lawful c ≡ true → wait_refusal c n room ≡ 0 → given (wait_lines c.clock n room) ≡ 0
unfolding wait_refusal
wait_accepted c n room h e = rw h at e

keeps_wait : (c : Card) (n room : ℕ) → lawful c ≡ true → wait_refusal c n room ≡ 0 → lawful (card_after c (passed c.clock n room) (fell (listed c.clock n room))) ≡ true
unfolding card_after
keeps_wait c n room h e =
    let r = ranges c.interrupts (parts c h).interrupts in
    keeps_interrupts _ (keeps_clock c h _ (Stays.waits c.clock n room (parts c h).clock (wait_accepted c n room h e))) _
    (within _ (record { mask = r.mask; pending = sources_below _ _ _ c.interrupts.pending r.pending; level = r.level }))

reset_lawful : (t : Time) (s : Settings) → time_lawful t ≡ true → settings_lawful s ≡ true → lawful (reset_card t s) ≡ true
reset_lawful t s e f =
    whole (reset_card t s)
    (record {
      interrupts = within _ (record { mask = lit< tt; pending = lit< tt; level = lit< tt });
      event = event-reset;
      time_latch = zero_lawful;
      settings = settings.reset_lawful s ClockSource.Internal f;
      jam = refl;
      queue = empty_lawful;
      clock = Stays.off_lawful t e;
    })

-- ---- all calls

module _ (c : Card) (h : lawful c ≡ true) where
  abbrev i : Interrupts
  i = c.interrupts

  abbrev r : Ranges i
  r = ranges i (parts c h).interrupts

  kept : (k : Call) (d : Card) → Effect c k d → lawful d ≡ true
  kept k d (Effect.sets_time year day hour minute second e) = keeps_clock c h _ (Stays.sets_time c.clock (parts c h).clock year day hour minute second e)
  kept k d Effect.reads_time = keeps_time_latch c h _ (words_lawful c h)
  kept k d (Effect.reads_other reg e) = h
  kept k d (Effect.requests_time v) = keeps_time_latch c h _ (words_lawful c h)
  kept k d (Effect.writes_control v) = keeps_event c h _ (control_lawful_lem c.event (parts c h).event v)
  kept k d (Effect.clears_done v e) = by (λ (x : Card). lawful x ≡ true) (bit 1 v) (λ f. keeps_done c h false) (λ f. h)
  kept k d (Effect.takes_packet v b e) =
      let a = ack_accepts c.jam (queued c.queue) e in
      let o = written_read _ _ _ (reads_in (queued c.queue) a.0) in
      let q = keeps_queue c h empty_queue empty_lawful in
      let s = applied_lawful (packet_in (queued c.queue)) c.settings o.fitting o.meant (parts c h).settings in
      keeps_done _ (keeps_settings _ q _ s (applied_jam (packet_in (queued c.queue)) c.settings c.jam a.1 (parts c h).jam)) true
  kept k d (Effect.joins_queue v e) = keeps_queue c h _ (enqueued_lawful c.queue (v % 256) e (parts c h).queue)
  kept k d (Effect.joins_block row e) = keeps_queue c h _ (filled_lawful row c.queue (parts c h).queue e)
  kept k d (Effect.writes_mask v) = keeps_interrupts c h _ (within _ (record { mask = omega arith; pending = r.pending; level = r.level }))
  kept k d (Effect.clears_pending v) =
      keeps_interrupts c h _ (within _ (record { mask = r.mask; pending = omega (arith, cleared_within v i.pending, r.pending); level = r.level }))
  kept k d (Effect.writes_level v) = keeps_interrupts c h _ (within _ (record { mask = r.mask; pending = r.pending; level = omega arith }))
  kept k d (Effect.writes_vector v) = keeps_interrupts c h _ (within _ (record { mask = r.mask; pending = r.pending; level = r.level }))
  kept k d (Effect.opens_latch v) = keeps_event c h _ (opened_lawful c.event (parts c h).event)
  kept k d (Effect.matches_edge falling e) =
      let w = keeps_event c h _ (edge_lawful c.event (parts c h).event (words_now c) (words_lawful c h)) in
      keeps_interrupts _ w _ (within _ (record { mask = r.mask; pending = raised_below true 0 i.pending (lit< tt) r.pending; level = r.level }))
  kept k d (Effect.passes_edge falling e) = h
  kept k d Effect.tells_line = h
  kept k d (Effect.sets_strobe s e) = keeps_clock c h _ (Stays.sets_strobe c.clock (parts c h).clock s e)
  kept k d (Effect.sets_periodic s e) = keeps_clock c h _ (Stays.sets_periodic c.clock (parts c h).clock s e)
  kept k d (Effect.waits n row e) = keeps_wait c n (length row) h e
  kept k d Effect.resets = reset_lawful c.clock.time c.settings (time_lawful_lem c h) (parts c h).settings
  kept k d (Effect.saves row) = h
  kept k d (Effect.loads bytes e j) = keeps_settings c h _ (loaded_lawful bytes e) j
  kept k d (Effect.writes_frame row) = h
  kept k d (Effect.switches_jam on j) = keeps_jam c h on j

  excepted : {n : ℕ} (k : Call) (d : Card) → Excepted k c d n → lawful d ≡ true
  excepted k d (Excepted.packet v l b z) = keeps_done _ (keeps_queue c h empty_queue empty_lawful) false
  excepted k d (Excepted.block row l r f) = kept _ d (found_effect c row l)

  by_outcome : {n : ℕ} (k : Call) (d : Card) → Outcome k c d n → lawful d ≡ true
  by_outcome k d (Outcome.unlawful l) = h
  by_outcome k d (Outcome.refused l e f) = h
  by_outcome k d (Outcome.accepted l o) = kept k d o
  by_outcome k d (Outcome.excepted l x e f) = excepted k d x

pub keeps : (k : Call) (c : Card) → lawful c ≡ true → lawful (after k c) ≡ true
keeps k c h = by_outcome c h k (after k c) (outcome k c)

pub fresh_lawful : lawful fresh_card ≡ true
unfolding fresh_card
fresh_lawful = reset_lawful fresh_card.clock.time fresh_card.settings Stays.first_lawful (settings_lawful_lem fresh_card.settings (record { mode = refl; meant = refl; pair = refl; offset = refl }))

pub fresh_queue : fresh_card.queue ≡ empty_queue
unfolding fresh_card
fresh_queue = refl

pub fresh_jam : fresh_card.jam ≡ true
unfolding fresh_card
fresh_jam = refl

-- any chain of calls from a fresh card, or from another lawful one
pub keeps_all : (ks : List Call) (c : Card) → lawful c ≡ true → lawful (after_all ks c) ≡ true
keeps_all [] c h = h
keeps_all (k ∷ ks) c h = keeps_all ks (after k c) (keeps k c h)

pub fresh_all : (ks : List Call) → lawful (after_all ks fresh_card) ≡ true
fresh_all ks = keeps_all ks fresh_card fresh_lawful
