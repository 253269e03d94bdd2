use Rattle.std.proofs.Common.{◌≡◌, ◌<◌, ◌++◌, ◌^◌, false, not, All, List, [], ◌∷◌, length, Some, None, ap, subst, sym, ◌∙◌, arith}
use Rattle.std.specs.Prelude.{OnOk, ◌&&◌}
use Rattle.std.proofs.lemmas.List.{append-nil}
use Rattle.bl_format.specs.declared.catalogue.MemberEntry.{MemberEntry}
use Rattle.bl_format.specs.declared.layout.Leaf.{Leaf}
use Rattle.bl_format.specs.Layout.{leaves_of, is_bad_length, content_of, type_entry, kind_of}
use Rattle.bl_layout.specs.declared.leaves.Part.{Part}
use Rattle.bl_layout.specs.Sizes.{parts_of, basic_in}
use Rattle.bl_layout.specs.Leaves.{part_of, kind_at, leaf_of_part, leaves_of_elements, member_leaf_list}
use Rattle.bl_layout.proofs.BuildLemmas.{leaves-near, length-good, kind_of-at, inner-found, emptiness, list-empty, list-inner, list-own}
use Rattle.bl_layout.proofs.LevelLemmas.{lists-at}
use Rattle.bl_layout.proofs.UnfoldLemmas.{inner-within}
use Rattle.bl_layout.proofs.leaf_levels.push_member.Goals as goal

pub returns-then-is_empty : goal.returns-then-is_empty
returns-then-is_empty c =
    let cat = c.args.catalogue.now in
    let w = c.args.width in
    let s = c.args.s in
    let k = c.args.k in
    let empty = emptiness cat w s k c.part_of-part.result c.is_empty.result c.part_of-part.ensures.part c.is_empty.ensures ∙ c.if-is_empty.true in
    sym (ap (λ (xs : List Leaf). c.args.leaves.now.items ++ xs) (list-empty (leaves_of cat w) cat w s k empty) ∙ append-nil c.args.leaves.now.items)

pub bounds-table-t : goal.bounds-table-t
bounds-table-t c =
    let cat = c.args.catalogue.now in
    let inner = inner-found cat c.args.s c.args.k c.entry_of-entry.result (Some c.in-Some.t) c.entry_of-entry.ensures.entry c.in-Some.ensures in
    omega (arith, c.requires.len, inner-within cat c.args.s c.args.k c.in-Some.t inner)

pub push_elements-requires-clause-small : goal.push_elements-requires-clause-small
push_elements-requires-clause-small c =
    let cat = c.args.catalogue.now in
    let w = c.args.width in
    let t = c.in-Some.t in
    let inner = inner-found cat c.args.s c.args.k c.entry_of-entry.result (Some t) c.entry_of-entry.ensures.entry c.in-Some.ensures in
    let inside = inner-within cat c.args.s c.args.k t inner in
    let fits : t < length c.args.table.now = omega (arith, c.requires.len, inside) in
    let row : c.deref.result.now ≡ leaves_of cat w t =
    c.deref.ensures.value ∙ lists-at c.args.table.now t c.index-table-t.result fits c.index-table-t.is
    ∙ c.requires.inner c.args.k t c.requires.member inner in
    subst (λ (xs : List Leaf). All (λ x. x.offset < 2 ^ 31) xs) (sym row)
    (leaves-near cat w t c.requires.catalogue c.requires.members inside)

pub kind_at-kind-requires-clause-good : goal.kind_at-kind-requires-clause-good
kind_at-kind-requires-clause-good c =
    let cat = c.args.catalogue.now in
    subst (λ (m : MemberEntry). (not (parts_of cat m).pointer
    && is_bad_length (basic_in (content_of cat m.type_number)) (type_entry cat m.type_number).length) ≡ false)
    (sym c.entry_of-entry.ensures.entry) (length-good cat c.args.width c.args.s c.args.k c.requires.members c.requires.member)

pub returns-in-Some : goal.returns-in-Some
returns-in-Some c =
    let cat = c.args.catalogue.now in
    let w = c.args.width in
    let s = c.args.s in
    let k = c.args.k in
    let t = c.in-Some.t in
    let inner = inner-found cat s k c.entry_of-entry.result (Some t) c.entry_of-entry.ensures.entry c.in-Some.ensures in
    let fits : t < length c.args.table.now = omega (arith, c.requires.len, inner-within cat s k t inner) in
    let row : c.deref.result.now ≡ leaves_of cat w t =
    c.deref.ensures.value ∙ lists-at c.args.table.now t c.index-table-t.result fits c.index-table-t.is ∙ c.requires.inner k t c.requires.member inner in
    let some = emptiness cat w s k c.part_of-part.result c.is_empty.result c.part_of-part.ensures.part c.is_empty.ensures ∙ c.if-is_empty.false in
    let more : leaves_of_elements c.part_of-part.result c.deref.result.now c.part_of-part.result.count ≡ member_leaf_list (leaves_of cat w) cat w s k =
    ap (λ (p : Part). leaves_of_elements p c.deref.result.now p.count) c.part_of-part.ensures.part
    ∙ ap (λ (xs : List Leaf). leaves_of_elements (part_of cat w s k) xs (part_of cat w s k).count) row
    ∙ sym (list-inner (leaves_of cat w) cat w s k t some inner) in
    subst (λ (xs : List Leaf). OnOk c.push_elements.result (c.push_elements.new.leaves.items ≡ c.args.leaves.now.items ++ xs)) more c.push_elements.ensures

pub returns-in_ok-push-in-None : goal.returns-in_ok-push-in-None
returns-in_ok-push-in-None c =
    let cat = c.args.catalogue.now in
    let w = c.args.width in
    let s = c.args.s in
    let k = c.args.k in
    let inner = inner-found cat s k c.entry_of-entry.result None c.entry_of-entry.ensures.entry c.in-None.ensures in
    let some = emptiness cat w s k c.part_of-part.result c.is_empty.result c.part_of-part.ensures.part c.is_empty.ensures ∙ c.if-is_empty.false in
    let kind : c.kind_at-kind.result ≡ kind_of cat s k =
    c.kind_at-kind.ensures ∙ ap (kind_at cat) c.entry_of-entry.ensures.entry ∙ sym (kind_of-at cat s k) in
    let leaf : c.in_ok-own_leaf-in-None.field-0 ≡ leaf_of_part (part_of cat w s k) (kind_of cat s k) =
    c.in_ok-own_leaf-in-None.ensures
    ∙ ap (λ (p : Part). leaf_of_part p c.kind_at-kind.result) c.part_of-part.ensures.part
    ∙ ap (leaf_of_part (part_of cat w s k)) kind in
    c.in_ok-push-in-None.ensures.items
    ∙ ap (λ (x : Leaf). c.args.leaves.now.items ++ x ∷ []) leaf
    ∙ ap (λ (xs : List Leaf). c.args.leaves.now.items ++ xs) (sym (list-own (leaves_of cat w) cat w s k some inner))
