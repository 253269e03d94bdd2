use Rattle.std.proofs.Common.{◌≡◌, ◌<◌, ◌+◌, List, length, set, ap, subst, sym, ◌∙◌, arith}
use Rattle.std.proofs.lemmas.List.{map-set}
use Rattle.std.specs.declared.vec.Vec.{Vec}
use Rattle.std.specs.declared.alloc.Global.{Global}
use Rattle.bl_format.specs.declared.layout.Leaf.{Leaf}
use Rattle.bl_format.specs.Layout.{nesting}
use Rattle.bl_layout.specs.Leaves.{lists_of}
use Rattle.bl_layout.proofs.LevelLemmas.{StandUpTo, nestings-len, nesting-at, length-lists_of, UpTo-inner, UpTo-set, UpTo-pass, UpTo-all}
use Rattle.bl_layout.proofs.leaf_levels.build_level.Goals as goal
use Rattle.bl_layout.proofs.leaf_levels.build_level.Goals.{then-own-nesting+in_ok-table, else-own-nesting}

pub struct_leaves-requires-clause-place : goal.struct_leaves-requires-clause-place
struct_leaves-requires-clause-place c =
    let len = nestings-len c.args.catalogue.now c.deref-own-items.result.now (c.deref-own-items.ensures.value ∙ c.requires.layout_tables.nestings) in
    omega (arith, c.loop-s-test.true, len)

pub overflow_cast-s : goal.overflow_cast-s
overflow_cast-s c =
    let len = nestings-len c.args.catalogue.now c.deref-own-items.result.now (c.deref-own-items.ensures.value ∙ c.requires.layout_tables.nestings) in
    omega (arith, c.loop-s-test.true, len, c.requires.catalogue.few_structs)

pub struct_leaves-requires-clause-inner : goal.struct_leaves-requires-clause-inner
struct_leaves-requires-clause-inner c =
    let cat = c.args.catalogue.now in
    let s = c.loop-s.s in
    let held = c.deref-own-items.result.now in
    let same = c.deref-own-items.ensures.value ∙ c.requires.layout_tables.nestings in
    let place : s < length cat.structs = omega (arith, c.loop-s-test.true, nestings-len cat held same) in
    let own : nesting cat s ≡ c.args.nesting = sym (nesting-at cat held s same place) ∙ c.if-own-nesting.true in
    UpTo-inner cat c.args.width c.args.nesting s s (lists_of c.loop-s.table) c.loop-s.invariant c.requires.members place own

pub offset_bounds-table-s : goal.offset_bounds-table-s
offset_bounds-table-s c =
    let len = nestings-len c.args.catalogue.now c.deref-own-items.result.now (c.deref-own-items.ensures.value ∙ c.requires.layout_tables.nestings) in
    omega (arith, c.loop-s-test.true, len, c.requires.catalogue.few_structs)

pub bounds-table-s : goal.bounds-table-s
bounds-table-s c =
    let len = nestings-len c.args.catalogue.now c.deref-own-items.result.now (c.deref-own-items.ensures.value ∙ c.requires.layout_tables.nestings) in
    omega (arith, c.loop-s-test.true, len, c.loop-s.invariant.below.len, length-lists_of c.loop-s.table)

pub loop-s-preserved : goal.loop-s-preserved
loop-s-preserved c =
    let cat = c.args.catalogue.now in
    let s = c.loop-s.s in
    let held = c.deref-own-items.result.now in
    let same = c.deref-own-items.ensures.value ∙ c.requires.layout_tables.nestings in
    let place : s < length cat.structs = omega (arith, c.loop-s-test.true, nestings-len cat held same) in
    elim c.if-own-nesting.branch [
      | then-own-nesting+in_ok-table w ↦
          let table : lists_of c.if-own-nesting.table ≡ set (lists_of c.loop-s.table) s w.in_ok-table.field-0.items =
          ap lists_of w.table-is ∙ map-set (λ (v : Vec Leaf Global). v.items) c.loop-s.table s w.in_ok-table.field-0 in
          subst (StandUpTo cat c.args.width c.args.nesting (s + 1)) (sym table)
          (UpTo-set cat c.args.width c.args.nesting s (lists_of c.loop-s.table) w.in_ok-table.field-0.items c.loop-s.invariant w.in_ok-table.ensures)
      | else-own-nesting w ↦
          subst (λ (t : List (Vec Leaf Global)). StandUpTo cat c.args.width c.args.nesting (s + 1) (lists_of t)) (sym w.table-is)
          (UpTo-pass cat c.args.width c.args.nesting s (lists_of c.loop-s.table) c.loop-s.invariant
          (λ is. w.if-own-nesting.false (nesting-at cat held s same place ∙ is)))
    ]

pub returns : goal.returns
returns c =
    let cat = c.args.catalogue.now in
    let len = nestings-len cat c.deref-own-items.result.now (c.deref-own-items.ensures.value ∙ c.requires.layout_tables.nestings) in
    UpTo-all cat c.args.width c.args.nesting c.loop-s.s (lists_of c.loop-s.table) c.loop-s.invariant (omega (arith, c.loop-s-test.false, len))
