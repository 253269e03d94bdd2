use Rattle.std.proofs.Common.{◌≡◌, ◌<◌, ℕ, true, [], length, get_or, ap, subst, sym, ◌∙◌, arith}
use Rattle.std.specs.Prelude.{nat_lt, slice_index}
use Rattle.std.specs.List.{list_all}
use Rattle.bl_format.specs.Layout.{member_count}
use Rattle.bl_layout.specs.Check.{IsFirstBack}
use Rattle.bl_layout.specs.Graph.{AreInnerStructs, AreRanks, links_of}
use Rattle.bl_layout.proofs.SearchLemmas.{links_at, length-links_of}
use Rattle.bl_layout.proofs.GraphLemmas.{links_inside, links-len}
use Rattle.bl_layout.proofs.OffsetLemmas.{members_same}
use Rattle.bl_layout.proofs.RankLemmas.{row_inside, above_first}
use Rattle.bl_layout.proofs.offsets.back_of.Goals as goal

pub is_above-requires : goal.is_above-requires
is_above-requires c = λ k d lt.
    let inner = c.as_slice-inner.result.now in
    let ranks = c.as_slice-ranks.result.now in
    let are_inner : AreInnerStructs c.args.catalogue.now inner = rw c.as_slice-inner.ensures.value c.requires.check_tables.inner in
    let are_ranks : AreRanks (links_of inner) ranks = rw (c.as_slice-inner.ensures.value, c.as_slice-ranks.ensures.value) c.requires.check_tables.ranks in
    let place : c.args.s < length inner = omega (arith, c.requires.place, links-len c.args.catalogue.now inner are_inner, length-links_of inner) in
    let row : c.deref.result.now ≡ get_or (links_of inner) c.args.s [] = c.deref.ensures.value ∙ links_at inner c.args.s c.index-inner-s.result place c.index-inner-s.is in
    row_inside (links_of inner) ranks c.deref.result.now c.args.s k d (links_inside c.args.catalogue.now inner are_inner) are_ranks.len row lt

pub returns-then-is_above : goal.returns-then-is_above
returns-then-is_above c =
    let cat = c.args.catalogue.now in
    let inner = c.as_slice-inner.result.now in
    let ranks = c.as_slice-ranks.result.now in
    let are_inner : AreInnerStructs c.args.catalogue.now inner = rw c.as_slice-inner.ensures.value c.requires.check_tables.inner in
    let are_ranks : AreRanks (links_of inner) ranks = rw (c.as_slice-inner.ensures.value, c.as_slice-ranks.ensures.value) c.requires.check_tables.ranks in
    let s = c.args.s in
    let place : s < length inner = omega (arith, c.requires.place, links-len cat inner are_inner, length-links_of inner) in
    let row : c.deref.result.now ≡ get_or (links_of inner) s [] = c.deref.ensures.value ∙ links_at inner s c.index-inner-s.result place c.index-inner-s.is in
    let all : list_all (λ t. nat_lt (slice_index ranks t) (slice_index ranks s)) (get_or (links_of inner) s []) ≡ true =
    ap (list_all (λ t. nat_lt (slice_index ranks t) (slice_index ranks s))) (sym row) ∙ sym c.is_above.ensures ∙ c.if-is_above.true in
    let members = members_same cat s c.as_slice.result.now c.index-as_slice-s.result c.as_slice-then-is_above.result.now c.requires.place c.as_slice.ensures c.as_slice-then-is_above.ensures in
    let count : member_count cat s ≡ length c.as_slice-then-is_above.result.now = sym (ap length members) in
    subst (λ (n : ℕ). IsFirstBack cat s n) count (above_first cat inner ranks s are_inner are_ranks all)
