use Rattle.std.proofs.Common.{◌≡◌, ◌≢◌, ◌+◌, false, Bool, ℕ, List, [], Vec, Global, length, get_or, set, sym, ap, subst, ◌∙◌, arith}
use Rattle.std.proofs.lemmas.Result.{err_from_is_err_and}
use Rattle.std.proofs.lemmas.List.{get_or_default}
use Rattle.bl_format.specs.declared.file.Head.{Head}
use Rattle.bl_plan.specs.declared.steps.Plan.{Plan}
use Rattle.bl_selection.specs.Selection.{index_under}
use Rattle.bl_draft.proofs.KeptLemmas.{length-numbers_under}
use Rattle.bl_draft.proofs.ListLemmas.{get_or-by}
use Rattle.bl_draft.proofs.OutlineFacts.{heads-inside, heads-namesakes}
use Rattle.bl_draft.proofs.StructsPlanned.{PlannedSoFar, namesake, planned_pass, planned_more, planned_refused, planned_all, planned_passes}
use Rattle.bl_draft.proofs.structs.plans_of.Goals.{then-head-ne0+then-not-index+in_ok-plans-2, else-head-ne0, else-head-ne0-via-then-head-ne0+else-not-index, else-head-ne0-via-else-head-ne0}
use Rattle.bl_draft.proofs.structs.plans_of.Goals as goal

pub loop-head-preserved : goal.loop-head-preserved
loop-head-preserved c =
    let o = c.args.outline.now in
    let d = c.args.draft.now in
    let heads = c.args.heads.now in
    let i = c.loop-head.head-index in
    let planned = c.loop-head.planned.items in
    let plans = c.loop-head.plans.items in
    elim c.if-head-ne0.branch [
      | then-head-ne0+then-not-index+in_ok-plans-2 w ↦
          let z : Head = record { code = []; len = 0; address = 0; index = 0; count = 0; at = 0 } in
          let s = (get_or heads i z).index in
          let plan = w.in_ok-plans-2.field-0 in
          let some : s ≢ 0 = w.if-head-ne0.true in
          let within = heads-inside o d heads c.requires.sound c.requires.draft c.requires.heads i z c.loop-head-test.true some in
          let there = namesake d.catalogue o.layout.catalogue s (heads-namesakes o d heads c.requires.draft c.requires.heads i z c.loop-head-test.true some) in
          subst (λ (v : Vec Plan Global). PlannedSoFar o d heads (i + 1) c.if-head-ne0.planned.items v.items) (sym w.plans-is)
          (subst (λ (v : Vec Bool Global). PlannedSoFar o d heads (i + 1) v.items (set plans s plan)) (sym w.planned-is)
          (planned_more o d heads i z planned plans c.loop-head-test.true c.loop-head.invariant plan within there.within
          w.in_ok-plans-2.ensures.made w.in_ok-plans-2.ensures.passes))
      | else-head-ne0 w ↦
          subst (λ (v : Vec Plan Global). PlannedSoFar o d heads (i + 1) c.if-head-ne0.planned.items v.items) (sym w.plans-is)
          (subst (λ (v : Vec Bool Global). PlannedSoFar o d heads (i + 1) v.items plans) (sym w.planned-is)
          (planned_pass o d heads i _ planned plans c.loop-head-test.true c.loop-head.invariant
          (elim w.else-head-ne0.branch [
            | else-head-ne0-via-then-head-ne0+else-not-index v ↦ λ some.
                let inside = heads-inside o d heads c.requires.sound c.requires.draft c.requires.heads i _ c.loop-head-test.true some in
                get_or_default planned _ false v.index.result.now (omega (arith, inside, c.loop-head.invariant.flags_len))
                ∙ sym v.index.ensures ∙ v.if-not-index.false
            | else-head-ne0-via-else-head-ne0 v ↦ λ some. absurd (some v.if-head-ne0.false)
          ])))
    ]

pub index-requires : goal.index-requires
index-requires c =
    let inside = heads-inside c.args.outline.now c.args.draft.now c.args.heads.now c.requires.sound c.requires.draft c.requires.heads c.loop-head.head-index _
    c.loop-head-test.true c.if-head-ne0.true in
    omega (arith, inside, c.loop-head.invariant.flags_len)

pub bounds-numbers-s : goal.bounds-numbers-s
bounds-numbers-s c =
    let inside = heads-inside c.args.outline.now c.args.draft.now c.args.heads.now c.requires.sound c.requires.draft c.requires.heads c.loop-head.head-index _
    c.loop-head-test.true c.if-head-ne0.true in
    omega (arith, inside, ap (λ (ns : List ℕ). length ns) c.requires.numbers, length-numbers_under c.args.draft.now.catalogue c.args.outline.now.layout.catalogue)

pub plan_of-requires-clause-s : goal.plan_of-requires-clause-s
plan_of-requires-clause-s c =
    heads-inside c.args.outline.now c.args.draft.now c.args.heads.now c.requires.sound c.requires.draft c.requires.heads c.loop-head.head-index _
    c.loop-head-test.true c.if-head-ne0.true

pub plan_of-requires-clause-t : goal.plan_of-requires-clause-t
plan_of-requires-clause-t c =
    let from = c.args.outline.now.layout.catalogue in
    let z : Head = record { code = []; len = 0; address = 0; index = 0; count = 0; at = 0 } in
    let s = (get_or c.args.heads.now c.loop-head.head-index z).index in
    let inside = heads-inside c.args.outline.now c.args.draft.now c.args.heads.now c.requires.sound c.requires.draft c.requires.heads c.loop-head.head-index z
    c.loop-head-test.true c.if-head-ne0.true in
    let number : get_or c.args.numbers.now s 0 ≡ index_under c.args.draft.now.catalogue from s =
    ap (λ (ns : List ℕ). get_or ns s 0) c.requires.numbers ∙ get_or-by (index_under c.args.draft.now.catalogue from) (length from.structs) s 0 inside in
    number

pub plan_of-requires-clause-namesake : goal.plan_of-requires-clause-namesake
plan_of-requires-clause-namesake c none =
    let from = c.args.outline.now.layout.catalogue in
    let z : Head = record { code = []; len = 0; address = 0; index = 0; count = 0; at = 0 } in
    let s = (get_or c.args.heads.now c.loop-head.head-index z).index in
    let inside = heads-inside c.args.outline.now c.args.draft.now c.args.heads.now c.requires.sound c.requires.draft c.requires.heads c.loop-head.head-index z
    c.loop-head-test.true c.if-head-ne0.true in
    let number : get_or c.args.numbers.now s 0 ≡ index_under c.args.draft.now.catalogue from s =
    ap (λ (ns : List ℕ). get_or ns s 0) c.requires.numbers ∙ get_or-by (index_under c.args.draft.now.catalogue from) (length from.structs) s 0 inside in
    heads-namesakes c.args.outline.now c.args.draft.now c.args.heads.now c.requires.draft c.requires.heads c.loop-head.head-index z
    c.loop-head-test.true c.if-head-ne0.true (sym number ∙ none)

pub index_mut-requires : goal.index_mut-requires
index_mut-requires c =
    let inside = heads-inside c.args.outline.now c.args.draft.now c.args.heads.now c.requires.sound c.requires.draft c.requires.heads c.loop-head.head-index _
    c.loop-head-test.true c.if-head-ne0.true in
    omega (arith, inside, c.loop-head.invariant.plans_len)

pub index_mut-requires-then-not-index : goal.index_mut-requires-then-not-index
index_mut-requires-then-not-index c =
    let inside = heads-inside c.args.outline.now c.args.draft.now c.args.heads.now c.requires.sound c.requires.draft c.requires.heads c.loop-head.head-index _
    c.loop-head-test.true c.if-head-ne0.true in
    omega (arith, inside, c.loop-head.invariant.flags_len)

pub returns-in_err-plans-2-clause-refuses : goal.returns-in_err-plans-2-clause-refuses
returns-in_err-plans-2-clause-refuses c =
    let o = c.args.outline.now in
    let d = c.args.draft.now in
    let p = err_from_is_err_and c.from_residual-in_err-plans-2.result c.from_residual-in_err-plans-2.ensures.1 in
    rw (p.1, p.2) (planned_refused o d c.args.heads.now c.loop-head.head-index _ c.loop-head.planned.items c.loop-head.plans.items
    c.loop-head-test.true c.loop-head.invariant c.in_err-plans-2.field-0.0 c.requires.draft c.requires.heads c.if-head-ne0.true
    c.in_err-plans-2.ensures.refuses)

pub returns-clause-carries : goal.returns-clause-carries
returns-clause-carries c =
    planned_all c.args.outline.now c.args.draft.now c.args.heads.now c.loop-head.head-index c.loop-head.planned.items c.loop-head.plans.items
    c.loop-head-test.false c.loop-head.invariant

pub returns-clause-passes : goal.returns-clause-passes
returns-clause-passes c =
    planned_passes c.args.outline.now c.args.draft.now c.args.heads.now c.loop-head.head-index c.loop-head.planned.items c.loop-head.plans.items
    c.loop-head-test.false c.loop-head.invariant c.requires.draft c.requires.heads
