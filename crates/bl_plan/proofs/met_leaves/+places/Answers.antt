use Rattle.std.proofs.Common.{◌≡◌, ◌<◌, ◌*◌, ◌-◌, ◌++◌, ◌∷◌, [], OnOk, Some, None, List, length, ℕ, Option, replicate, flat_map, sym, ap, subst, ◌∙◌, arith}
use Rattle.std.specs.Option.{option_and_then}
use Rattle.bl_format.specs.Words.{numbers_below}
use Rattle.bl_format.specs.Layout.{named_leaves, name_of, struct_name}
use Rattle.bl_layout.proofs.UnfoldLemmas.{inner-nesting, inner-within}
use Rattle.bl_plan.specs.SourcePlaces.{source_member, own_leaf_of, element_places, member_of_leaf}
use Rattle.bl_plan.proofs.FirstLeafTable.{laid, few_leaves, length-leaves_of, leaf-member, leaf-below}
use Rattle.bl_plan.proofs.MemberMeets.{own-meets, other-meets, inner-meets}
use Rattle.bl_plan.proofs.PlacesSoFar.{up_to_none, next_some, next_up_to, longer, up_to_all}
use Rattle.bl_plan.proofs.PushedPlaces.{shape-inner, shape-count, none_left, length-inner, source_member-inner, elements_said, are_met, found_within}
use Rattle.bl_plan.proofs.met_leaves.+places.Goals as goal

pub push_member-returns-in_default : goal.push_member-returns-in_default
push_member-returns-in_default t c =
    let from = c.args.from.now.catalogue in
    let to = c.args.to.now.catalogue in
    let v = c.args.from.now.width in
    let w = c.args.to.now.width in
    let k = c.args.member in
    let is_own = shape-inner to w c.args.t k c.member_shape-target.result None c.member_shape-target.ensures.shape
    (none_left c.member_shape-target.result.inner c.in_default.not-Some) in
    let source = c.source_member-source.ensures ∙ ap (source_member from v c.args.s) c.member_key.ensures in
    c.in_ok-push.ensures.items
    ∙ ap (λ xs. c.args.places.now.items ++ xs)
    (ap (λ o. o ∷ []) (c.own_leaf_of.ensures ∙ ap (option_and_then own_leaf_of) source)
    ∙ sym (own-meets from to v w c.args.s c.args.t k (laid from v c.args.s c.requires.has_layout c.requires.s) c.requires.name is_own c.requires.leaves))

pub push_member-elements_of-requires : goal.push_member-elements_of-requires
push_member-elements_of-requires t c =
    let from = c.args.from.now.catalogue in
    let v = c.args.from.now.width in
    source_member-inner from v c.args.s c.member_key.result.now c.source_member-source.result (laid from v c.args.s c.requires.has_layout c.requires.s) c.source_member-source.ensures

pub push_member-source_places-requires : goal.push_member-source_places-requires
push_member-source_places-requires t c =
    let from = c.args.from.now.catalogue in
    let to = c.args.to.now.catalogue in
    let v = c.args.from.now.width in
    let w = c.args.to.now.width in
    let k = c.args.member in
    let f = c.in-Some.inner in
    let own = laid to w c.args.t c.member_shape-target.ensures.has_layout c.requires.t in
    let is_inner = shape-inner to w c.args.t k c.member_shape-target.result (Some f) c.member_shape-target.ensures.shape c.in-Some.is in
    let name = c.struct_name.ensures ∙ ap (λ d. struct_name d f) c.catalogue.ensures.is in
    let source = c.source_member-source.ensures ∙ ap (source_member from v c.args.s) c.member_key.ensures in
    let elements = elements_said from v c.struct_name.result.now (struct_name to f) c.source_member-source.result (source_member from v c.args.s (name_of to c.args.t k).key)
    c.elements_of.result (Some c.in-Some-elements_of.elements) c.elements_of.ensures name source c.in-Some-elements_of.is in
    let met = are_met from v c.args.s (name_of to c.args.t k).key (struct_name to f) c.in-Some-elements_of.elements (laid from v c.args.s c.requires.has_layout c.requires.s) elements in
    (omega (arith, c.decreases, inner-nesting to w c.args.t k f own.no_fault c.requires.t c.requires.member is_inner), (met.within, (inner-within to c.args.t k f is_inner, met.name_is)))

pub push_member-push_elements-requires-clause-near :
    goal.push_member-push_elements-requires-clause-near
push_member-push_elements-requires-clause-near t c =
    let from = c.args.from.now.catalogue in
    let to = c.args.to.now.catalogue in
    let v = c.args.from.now.width in
    let f = c.in-Some.inner in
    let k = c.args.member in
    let name = c.struct_name.ensures ∙ ap (λ d. struct_name d f) c.catalogue.ensures.is in
    let source = c.source_member-source.ensures ∙ ap (source_member from v c.args.s) c.member_key.ensures in
    let elements = elements_said from v c.struct_name.result.now (struct_name to f) c.source_member-source.result (source_member from v c.args.s (name_of to c.args.t k).key)
    c.elements_of.result (Some c.in-Some-elements_of.elements) c.elements_of.ensures name source c.in-Some-elements_of.is in
    let met = are_met from v c.args.s (name_of to c.args.t k).key (struct_name to f) c.in-Some-elements_of.elements (laid from v c.args.s c.requires.has_layout c.requires.s) elements in
    omega (arith, met.near, few_leaves from v c.args.s c.requires.has_layout c.requires.s)

pub push_member-push_elements-requires-clause-inside :
    goal.push_member-push_elements-requires-clause-inside
push_member-push_elements-requires-clause-inside t c =
    let from = c.args.from.now.catalogue in
    let to = c.args.to.now.catalogue in
    let v = c.args.from.now.width in
    let f = c.in-Some.inner in
    let k = c.args.member in
    let name = c.struct_name.ensures ∙ ap (λ d. struct_name d f) c.catalogue.ensures.is in
    let source = c.source_member-source.ensures ∙ ap (source_member from v c.args.s) c.member_key.ensures in
    let elements = elements_said from v c.struct_name.result.now (struct_name to f) c.source_member-source.result (source_member from v c.args.s (name_of to c.args.t k).key)
    c.elements_of.result (Some c.in-Some-elements_of.elements) c.elements_of.ensures name source c.in-Some-elements_of.is in
    let met = are_met from v c.args.s (name_of to c.args.t k).key (struct_name to f) c.in-Some-elements_of.elements (laid from v c.args.s c.requires.has_layout c.requires.s) elements in
    found_within from v c.in-Some-elements_of.elements.s c.in-Some-elements_of.elements.leaves (named_leaves to c.args.to.now.width f)
    (c.in_ok-found-in-Some-elements_of).found.items c.as_slice.result.now (c.in_ok-found-in-Some-elements_of).ensures c.as_slice.ensures.value met.leaves_are

pub push_member-leaves-requires : goal.push_member-leaves-requires
push_member-leaves-requires t c =
    let to = c.args.to.now.catalogue in
    inner-within to c.args.t c.args.member c.in-Some.inner
    (shape-inner to c.args.to.now.width c.args.t c.args.member c.member_shape-target.result (Some c.in-Some.inner) c.member_shape-target.ensures.shape c.in-Some.is)

pub push_member-overflow_mul-leaves : goal.push_member-overflow_mul-leaves
push_member-overflow_mul-leaves t c =
    let to = c.args.to.now.catalogue in
    let w = c.args.to.now.width in
    let k = c.args.member in
    let f = c.in-Some.inner in
    let is_inner = shape-inner to w c.args.t k c.member_shape-target.result (Some f) c.member_shape-target.ensures.shape c.in-Some.is in
    let own = laid to w c.args.t c.member_shape-target.ensures.has_layout c.requires.t in
    let product : length c.leaves.result.now * c.member_shape-target.result.count ≡ length (named_leaves to w f) * (name_of to c.args.t k).count =
    λ i. (ap length c.leaves.ensures.leaves ∙ length-leaves_of to w f) i * shape-count to w c.args.t k c.member_shape-target.result c.member_shape-target.ensures.shape i in
    omega (arith, product, length-inner to w c.args.t k f own c.requires.member c.requires.leaves is_inner, few_leaves to w c.args.t c.member_shape-target.ensures.has_layout c.requires.t)

pub push_member-returns-in_ok-found-in-Some-elements_of :
    goal.push_member-returns-in_ok-found-in-Some-elements_of
push_member-returns-in_ok-found-in-Some-elements_of t c =
    let from = c.args.from.now.catalogue in
    let to = c.args.to.now.catalogue in
    let v = c.args.from.now.width in
    let w = c.args.to.now.width in
    let k = c.args.member in
    let f = c.in-Some.inner in
    let m = c.in-Some-elements_of.elements in
    let is_inner = shape-inner to w c.args.t k c.member_shape-target.result (Some f) c.member_shape-target.ensures.shape c.in-Some.is in
    let name = c.struct_name.ensures ∙ ap (λ d. struct_name d f) c.catalogue.ensures.is in
    let source = c.source_member-source.ensures ∙ ap (source_member from v c.args.s) c.member_key.ensures in
    let elements = elements_said from v c.struct_name.result.now (struct_name to f) c.source_member-source.result (source_member from v c.args.s (name_of to c.args.t k).key)
    c.elements_of.result (Some m) c.elements_of.ensures name source c.in-Some-elements_of.is in
    let found = c.as_slice.ensures.value ∙ (c.in_ok-found-in-Some-elements_of).ensures in
    let count = shape-count to w c.args.t k c.member_shape-target.result c.member_shape-target.ensures.shape in
    subst (λ (xs : List (Option ℕ)). OnOk c.push_elements.result (c.push_elements.new.places.items ≡ c.args.places.now.items ++ xs))
    ((λ i. flat_map (element_places m (found i)) (numbers_below (count i)))
    ∙ sym (inner-meets from to v w c.args.s c.args.t k f m (laid from v c.args.s c.requires.has_layout c.requires.s) c.requires.name is_inner c.requires.leaves elements))
    c.push_elements.ensures

pub push_member-returns-in-None : goal.push_member-returns-in-None
push_member-returns-in-None t c =
    let from = c.args.from.now.catalogue in
    let to = c.args.to.now.catalogue in
    let v = c.args.from.now.width in
    let w = c.args.to.now.width in
    let k = c.args.member in
    let f = c.in-Some.inner in
    let is_inner = shape-inner to w c.args.t k c.member_shape-target.result (Some f) c.member_shape-target.ensures.shape c.in-Some.is in
    let name = c.struct_name.ensures ∙ ap (λ d. struct_name d f) c.catalogue.ensures.is in
    let source = c.source_member-source.ensures ∙ ap (source_member from v c.args.s) c.member_key.ensures in
    let elements = elements_said from v c.struct_name.result.now (struct_name to f) c.source_member-source.result (source_member from v c.args.s (name_of to c.args.t k).key)
    c.elements_of.result None c.elements_of.ensures name source c.in-None.is in
    let product : length c.leaves.result.now * c.member_shape-target.result.count ≡ length (named_leaves to w f) * (name_of to c.args.t k).count =
    λ i. (ap length c.leaves.ensures.leaves ∙ length-leaves_of to w f) i * shape-count to w c.args.t k c.member_shape-target.result c.member_shape-target.ensures.shape i in
    subst (λ (xs : List (Option ℕ)). OnOk c.push_none.result (c.push_none.new.places.items ≡ c.args.places.now.items ++ xs))
    (ap (λ n. replicate n None) product
    ∙ sym (other-meets from to v w c.args.s c.args.t k f (laid from v c.args.s c.requires.has_layout c.requires.s) is_inner c.requires.leaves elements))
    c.push_none.ensures

pub source_places-loop-leaves-init : goal.source_places-loop-leaves-init
source_places-loop-leaves-init t c =
    up_to_none (named_leaves c.args.from.now.catalogue c.args.from.now.width c.args.s) c.args.to.now.catalogue c.args.to.now.width c.args.t
    c.in_ok-places.places.items c.in_ok-places.ensures.items

pub source_places-push_member-requires : goal.source_places-push_member-requires
source_places-push_member-requires t c =
    let to = c.args.to.now.catalogue in
    let w = c.args.to.now.width in
    let xs = named_leaves c.args.from.now.catalogue c.args.from.now.width c.args.s in
    let own = laid to w c.args.t c.leaves-leaves.ensures.has_layout c.requires.t in
    let at = c.len-in-loop-leaves.result in
    let same : at ≡ length c.loop-leaves.places.items = omega (arith, c.len-in-loop-leaves.ensures, c.loop-leaves.places.ok) in
    let few : at < length c.leaves-leaves.result.now = omega (arith, same, c.loop-leaves-test.true, c.len.ensures, c.loop-leaves.places.ok) in
    let more : length c.loop-leaves.places.items < length (named_leaves to w c.args.t) =
    omega (arith, same, few, ap length c.leaves-leaves.ensures.leaves, length-leaves_of to w c.args.t) in
    let leaf = c.index-leaves-len.result in
    let member = leaf-member to w c.args.t at c.leaves-leaves.result.now leaf c.leaves-leaves.ensures.leaves few ∙ ap (member_of_leaf to w c.args.t) same in (
      omega (arith, c.decreases),
      (
        c.requires.s,
        (
          c.requires.t,
          (
            c.requires.name,
            (
              c.first_leaves.ensures.has_layout,
              (
                c.in_ok-table.ensures.table,
                (
                  leaf-below to w c.args.t at c.leaves-leaves.result.now leaf c.leaves-leaves.ensures.leaves few,
                  next_some xs to w c.args.t _ c.loop-leaves.places.items own c.loop-leaves.invariant more member,
                ),
              ),
            ),
          ),
        ),
      ),
    )

pub source_places-loop-leaves-smaller : goal.source_places-loop-leaves-smaller
source_places-loop-leaves-smaller t c =
    let to = c.args.to.now.catalogue in
    let w = c.args.to.now.width in
    let xs = named_leaves c.args.from.now.catalogue c.args.from.now.width c.args.s in
    let own = laid to w c.args.t c.leaves-leaves.ensures.has_layout c.requires.t in
    let at = c.len-in-loop-leaves.result in
    let same : at ≡ length c.loop-leaves.places.items = omega (arith, c.len-in-loop-leaves.ensures, c.loop-leaves.places.ok) in
    let few : at < length c.leaves-leaves.result.now = omega (arith, same, c.loop-leaves-test.true, c.len.ensures, c.loop-leaves.places.ok) in
    let more : length c.loop-leaves.places.items < length (named_leaves to w c.args.t) =
    omega (arith, same, few, ap length c.leaves-leaves.ensures.leaves, length-leaves_of to w c.args.t) in
    let leaf = c.index-leaves-len.result in
    let member = leaf-member to w c.args.t at c.leaves-leaves.result.now leaf c.leaves-leaves.ensures.leaves few ∙ ap (member_of_leaf to w c.args.t) same in
    let some = next_some xs to w c.args.t _ c.loop-leaves.places.items own c.loop-leaves.invariant more member in
    let put = longer xs _ c.loop-leaves.places.items c.push_member.new.places.items some c.in_ok-push_member.ensures in
    let less : length c.leaves-leaves.result.now - length c.push_member.new.places.items < length c.leaves-leaves.result.now - length c.loop-leaves.places.items =
    omega (arith, put, same, few) in
    less

pub source_places-loop-leaves-preserved : goal.source_places-loop-leaves-preserved
source_places-loop-leaves-preserved t c =
    let to = c.args.to.now.catalogue in
    let w = c.args.to.now.width in
    let xs = named_leaves c.args.from.now.catalogue c.args.from.now.width c.args.s in
    let own = laid to w c.args.t c.leaves-leaves.ensures.has_layout c.requires.t in
    let at = c.len-in-loop-leaves.result in
    let same : at ≡ length c.loop-leaves.places.items = omega (arith, c.len-in-loop-leaves.ensures, c.loop-leaves.places.ok) in
    let few : at < length c.leaves-leaves.result.now = omega (arith, same, c.loop-leaves-test.true, c.len.ensures, c.loop-leaves.places.ok) in
    let more : length c.loop-leaves.places.items < length (named_leaves to w c.args.t) =
    omega (arith, same, few, ap length c.leaves-leaves.ensures.leaves, length-leaves_of to w c.args.t) in
    let leaf = c.index-leaves-len.result in
    let member = leaf-member to w c.args.t at c.leaves-leaves.result.now leaf c.leaves-leaves.ensures.leaves few ∙ ap (member_of_leaf to w c.args.t) same in
    next_up_to xs to w c.args.t _ c.loop-leaves.places.items c.push_member.new.places.items own c.loop-leaves.invariant more member c.in_ok-push_member.ensures

pub source_places-returns : goal.source_places-returns
source_places-returns t c =
    let to = c.args.to.now.catalogue in
    let w = c.args.to.now.width in
    let xs = named_leaves c.args.from.now.catalogue c.args.from.now.width c.args.s in
    up_to_all xs to w c.args.t c.loop-leaves.places.items (laid to w c.args.t c.leaves-leaves.ensures.has_layout c.requires.t) c.loop-leaves.invariant
    (omega (arith, c.loop-leaves-test.false, c.len.ensures, c.loop-leaves.places.ok, ap length c.leaves-leaves.ensures.leaves, length-leaves_of to w c.args.t))
