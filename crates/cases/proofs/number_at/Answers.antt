-- The closures compute the test and the step, so the parts are those of `slice_split`, and the number is their fold.
use Rattle.std.proofs.Common.{rules, tests, refl, ◌∙◌, eqb}
use Rattle.std.proofs.lemmas.Iterator.{YieldsList-from_slice}
use Rattle.std.proofs.lemmas.Iterator.Consumers.{nth_from_yields_List, fold_from_yields_List}
use Rattle.std.proofs.lemmas.Iterator.Splits.{YieldsList-from_slice_split}
use Rattle.cases.specs.Numbers.{with_digit}
use Rattle.cases.proofs.Laws.{number_of_part}
use Rattle.cases.proofs.number_at.Goals as goal

pub returns : goal.returns
returns c =
    let number = fold_from_yields_List _ with_digit _ _ c.fold.ensures.ran (YieldsList-from_slice _ c.iter.ensures.rest) (λ a x b q k. search rules) in
    let part = nth_from_yields_List _ _ c.args.place c.nth.ensures.ran (YieldsList-from_slice_split _ (λ b. eqb b 32) c.args.text.now c.split.ensures.rest c.split.ensures.done c.split.ensures.closure (λ x r q k. search (rules, tests))) in
    number ∙ rw c.unwrap_or-digits.ensures (number_of_part c.nth.result _ (λ x. x.now) c.args.place c.args.text.now part refl)
