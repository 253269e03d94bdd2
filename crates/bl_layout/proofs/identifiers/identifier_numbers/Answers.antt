use Rattle.std.proofs.Common.{get_or, [], ◌≡◌, List, ℕ, ap, ◌∙◌}
use Rattle.std.specs.Ordering.{nat_cmp}
use Rattle.std.specs.Cmp.Lexicographic.{slice_cmp}
use Rattle.std.proofs.lemmas.List.{get_or_default}
use Rattle.bl_layout.specs.MemberNames.{name_parts}
use Rattle.bl_layout.specs.Identifiers.{identifier_of, known_number}
use Rattle.bl_layout.proofs.IdentifierLemmas.{get_by_empty, Knows-none, Knows-push, Knows-all}
use Rattle.bl_layout.proofs.identifiers.identifier_numbers.Goals as goal

pub loop-i-init : goal.loop-i-init
loop-i-init c =
    rw c.in_ok-numbers.ensures.items
    (Knows-none c.args.names.now (known_number c.new-known.result) (λ q. get_by_empty (λ k. slice_cmp nat_cmp q k.now) c.new-known.result c.new-known.ensures.empty))

pub loop-i-preserved : goal.loop-i-preserved
loop-i-preserved c =
    let identifier = c.identifier_in-identifier.result.now in
    let name : c.as_slice.result.now ≡ get_or c.args.names.now c.loop-i.i [] =
    c.as_slice.ensures ∙ c.index-names-i.is ∙ get_or_default c.args.names.now c.loop-i.i c.index-names-i.result [] c.loop-i-test.true in
    let is : identifier ≡ identifier_of c.args.names.now c.loop-i.i = c.identifier_in-identifier.ensures ∙ ap (λ (x : List ℕ). (name_parts x).identifier) name in
    rw c.in_ok-push.ensures.items (Knows-push c.args.names.now (known_number c.loop-i.known) (known_number c.number_for.new.known) c.loop-i.numbers.items c.loop-i.i c.in_ok-number.number identifier c.loop-i-test.true is c.in_ok-number.ensures.number c.in_ok-number.ensures.learns c.loop-i.invariant)

pub returns : goal.returns
returns c = Knows-all c.args.names.now (known_number c.loop-i.known) c.loop-i.numbers.items c.loop-i.i c.loop-i-test.false c.loop-i.auto.i-end c.loop-i.invariant
