use Rattle.std.proofs.Common.{◌≡◌, ◌≤◌, ◌+◌, ℕ, List, length, ap, sym, ◌∙◌, refl, arith}
use Rattle.std.specs.Prelude.{replicate, slice_index}
use Rattle.std.proofs.lemmas.Slice.Eq.{bytes_eq-Decides}
use Rattle.bl_format.proofs.MemberPasses.{first_fault-none}
use Rattle.bl_layout.specs.NewLengths.{next_lengths}
use Rattle.bl_layout.proofs.NewLengthLemmas.{lengths_within, lengths_within-short, round_further, lengths_fixed, lengths_start}
use Rattle.bl_layout.proofs.new_lengths.new_lengths.Goals as goal

pub loop-init : goal.loop-init
loop-init c =
    let zeros : c.in_ok-lengths.lengths.items ≡ replicate c.struct_count-count.result 0 = c.in_ok-lengths.ensures.items_if_clones_equal (λ y e. e) in
    zeros ∙ lengths_start c.args.layout.now.catalogue c.args.layout.now.width c.args.to c.struct_count-count.result c.struct_count-count.ensures

pub next_lengths-requires-clause-lengths : goal.next_lengths-requires-clause-lengths
next_lengths-requires-clause-lengths c =
    let cat = c.args.layout.now.catalogue in
    let w = c.args.layout.now.width in
    rw (c.deref.ensures.value, c.loop.invariant) (lengths_within-short cat w c.args.to c.loop.counter (first_fault-none cat w c.requires.no_fault))

pub returns-then-eq : goal.returns-then-eq
returns-then-eq c =
    let cat = c.args.layout.now.catalogue in
    let w = c.args.layout.now.width in
    let to = c.args.to in
    let n = c.loop.counter in
    let next : c.in_ok-next.next.items ≡ lengths_within (n + 1) cat w to =
    c.in_ok-next.ensures ∙ ap (λ (xs : List ℕ). next_lengths (slice_index xs) cat w to) (c.deref.ensures.value ∙ c.loop.invariant) ∙ round_further cat w to n (n + 1) refl in
    let same : c.as_slice.result.now ≡ c.as_slice-in-loop.result.now = (bytes_eq-Decides c.as_slice.result.now c.as_slice-in-loop.result.now).0 (sym c.eq.ensures ∙ c.if-eq.true) in
    let old : c.in_ok-next.next.items ≡ lengths_within n cat w to = sym c.as_slice.ensures.value ∙ same ∙ c.as_slice-in-loop.ensures.value ∙ c.loop.invariant in
    let le : n ≤ length cat.structs = omega (arith, c.loop-test.true, c.struct_count-count.ensures) in
    old ∙ lengths_fixed cat w to n le (sym next ∙ old)

pub loop-preserved : goal.loop-preserved
loop-preserved c =
    let cat = c.args.layout.now.catalogue in
    let w = c.args.layout.now.width in
    c.in_ok-next.ensures ∙ ap (λ (xs : List ℕ). next_lengths (slice_index xs) cat w c.args.to) (c.deref.ensures.value ∙ c.loop.invariant)
    ∙ round_further cat w c.args.to c.loop.counter (c.loop.counter + 1) refl
