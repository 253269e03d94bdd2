use Rattle.std.proofs.Common.{◌≡◌, ◌∷◌, Some, List, ℕ, ◌+◌, true, false, [], sym, ◌∙◌, ap, arith}
use Rattle.std.proofs.lemmas.List.{take_rest, nil_from_length}
use Rattle.bl_format.specs.Members.{extents}
use Rattle.bl_layout.specs.MemberNames.{opens_number, bounded_count}
use Rattle.bl_layout.proofs.BracketLemmas.{count_from, count_from-number, count_from-other, leading_digits}
use Rattle.bl_layout.proofs.member_names.element_count.Goals as goal

pub returns-then-not-opens_number : goal.returns-then-not-opens_number
returns-then-not-opens_number c =
    let rest : c.loop-first.rest.now ≡ c.in-Some.first.now ∷ c.in-Some.digits.now = c.in-Some.ensures.cases.0 in
    let other : opens_number c.in-Some.first.now c.in-Some.digits.now ≡ false = cc (c.opens_number.ensures, c.if-not-opens_number.true) in
    sym (c.loop-first.invariant.same ∙ ap (count_from c.loop-first.count) rest ∙ count_from-other c.loop-first.count c.in-Some.first.now c.in-Some.digits.now other)

pub number_in-requires-clause-digits : goal.number_in-requires-clause-digits
number_in-requires-clause-digits c = rw c.digit_count-len.ensures.len (leading_digits c.in-Some.digits.now)

pub loop-first-preserved : goal.loop-first-preserved
loop-first-preserved c =
    let digits : List ℕ = c.in-Some.digits.now in
    let rest : c.loop-first.rest.now ≡ c.in-Some.first.now ∷ digits = c.in-Some.ensures.cases.0 in
    let opens : opens_number c.in-Some.first.now digits ≡ true = cc (c.opens_number.ensures, c.if-not-opens_number.false) in
    record {
      same = rw (take_rest digits (c.digit_count-len.result + 1), c.capped_product-count.ensures, c.number_in.ensures.number, c.digit_count-len.ensures.len) (c.loop-first.invariant.same ∙ ap (count_from c.loop-first.count) rest ∙ count_from-number c.loop-first.count c.in-Some.first.now digits opens);
      capped = rw c.capped_product-count.ensures (omega arith);
    }

pub returns : goal.returns
unfolding extents
returns c =
    let rest : c.loop-first.rest.now ≡ [] = nil_from_length c.loop-first.rest.now c.in_default.ensures.cases in
    let capped : bounded_count c.loop-first.count ≡ c.loop-first.count = omega (arith, c.loop-first.invariant.capped) in
    sym (c.loop-first.invariant.same ∙ ap (count_from c.loop-first.count) rest ∙ ap Some capped)
