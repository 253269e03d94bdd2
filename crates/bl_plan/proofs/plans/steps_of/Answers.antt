use Rattle.std.proofs.Common.{◌<◌, ◌+◌, length, sym, subst, arith}
use Rattle.std.specs.declared.vec.Vec.{Vec}
use Rattle.std.specs.declared.alloc.Global.{Global}
use Rattle.bl_format.specs.Layout.{named_leaves, struct_length}
use Rattle.bl_plan.specs.declared.steps.Step.{Step}
use Rattle.bl_plan.specs.Plans.{IsFaultOf}
use Rattle.bl_plan.proofs.PlanLaws.{IsPlanned, plan_begun, plan_made, leaf_met, planned_fresh, planned_step, planned_clash, planned_passes}
use Rattle.bl_plan.proofs.plans.steps_of.Goals as goal
use Rattle.bl_plan.proofs.plans.steps_of.Goals.{in-Fresh, in-Carried+in_ok-push_step-in-Carried}

pub loop-leaf-init : goal.loop-leaf-init
loop-leaf-init c =
    let from = c.args.from.now in
    let to = c.args.to.now in
    plan_begun from.catalogue from.width c.args.s to.catalogue to.width c.args.t c.in_ok-steps.steps.items c.leaf_count-targets.ensures.has_layout c.in_ok-steps.ensures.items

pub returns-in-Clash-clause-refuses : goal.returns-in-Clash-clause-refuses
returns-in-Clash-clause-refuses c =
    let from = c.args.from.now in
    let to = c.args.to.now in
    let xs = named_leaves from.catalogue from.width c.args.s in
    let ys = named_leaves to.catalogue to.width c.args.t in
    let lt : c.loop-leaf.leaf < length ys = omega (arith, c.loop-leaf-test.true, c.leaf_count-targets.ensures.count) in
    let met = leaf_met from.catalogue from.width c.args.s to.catalogue to.width c.args.t c.loop-leaf.leaf c.args.found.now _ c.meeting_of.result _
    c.leaf_count-sources.ensures.has_layout c.leaf_count-targets.ensures.has_layout c.requires.found lt c.meeting_of.ensures c.in-Clash.is in
    subst (IsFaultOf xs ys) (sym c.clash_at.ensures)
    (planned_clash (struct_length from.catalogue c.args.s) (struct_length to.catalogue c.args.t) xs ys c.loop-leaf.leaf c.loop-leaf.steps.items lt met c.loop-leaf.invariant)

pub loop-leaf-preserved : goal.loop-leaf-preserved
loop-leaf-preserved c =
    let from = c.args.from.now in
    let to = c.args.to.now in
    let n = struct_length from.catalogue c.args.s in
    let m = struct_length to.catalogue c.args.t in
    let xs = named_leaves from.catalogue from.width c.args.s in
    let ys = named_leaves to.catalogue to.width c.args.t in
    let i = c.loop-leaf.leaf in
    let lt : i < length ys = omega (arith, c.loop-leaf-test.true, c.leaf_count-targets.ensures.count) in
    elim c.match-meeting_of.branch [
      | in-Fresh w ↦
          subst (λ (v : Vec Step Global). IsPlanned n m xs ys (i + 1) v.items) (sym w.steps-is)
          (planned_fresh n m xs ys i c.loop-leaf.steps.items lt
          (leaf_met from.catalogue from.width c.args.s to.catalogue to.width c.args.t i c.args.found.now _ c.meeting_of.result _
          c.leaf_count-sources.ensures.has_layout c.leaf_count-targets.ensures.has_layout c.requires.found lt c.meeting_of.ensures w.in-Fresh.is) c.loop-leaf.invariant)
      | in-Carried+in_ok-push_step-in-Carried w ↦
          subst (λ (v : Vec Step Global). IsPlanned n m xs ys (i + 1) v.items) (sym w.steps-is)
          (planned_step n m xs ys i c.loop-leaf.steps.items w.push_step.new.steps.items w.in-Carried.step lt
          (leaf_met from.catalogue from.width c.args.s to.catalogue to.width c.args.t i c.args.found.now _ c.meeting_of.result _
          c.leaf_count-sources.ensures.has_layout c.leaf_count-targets.ensures.has_layout c.requires.found lt c.meeting_of.ensures w.in-Carried.is)
          w.in_ok-push_step-in-Carried.ensures c.loop-leaf.invariant)
    ]

pub returns-clause-made : goal.returns-clause-made
returns-clause-made c =
    let from = c.args.from.now in
    let to = c.args.to.now in
    plan_made from.catalogue from.width c.args.s to.catalogue to.width c.args.t c.loop-leaf.leaf c.loop-leaf.steps.items
    (omega (arith, c.loop-leaf-test.false, c.leaf_count-targets.ensures.count)) c.loop-leaf.invariant

pub returns-clause-passes : goal.returns-clause-passes
returns-clause-passes c =
    let from = c.args.from.now in
    let to = c.args.to.now in
    planned_passes (struct_length from.catalogue c.args.s) (struct_length to.catalogue c.args.t) (named_leaves from.catalogue from.width c.args.s)
    (named_leaves to.catalogue to.width c.args.t) c.loop-leaf.leaf c.loop-leaf.steps.items (omega (arith, c.loop-leaf-test.false, c.leaf_count-targets.ensures.count)) c.loop-leaf.invariant
