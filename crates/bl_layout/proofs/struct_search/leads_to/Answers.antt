use Rattle.std.proofs.Common.{◌≡◌, ◌<◌, List, ℕ, [], ◌∷◌, ◌++◌, length, get_or, ap, subst, sym, ◌∙◌, arith}
use Rattle.std.proofs.lemmas.List.{length-append, nil_from_length}
use Rattle.bl_layout.specs.Graph.{links_of}
use Rattle.bl_layout.proofs.SearchLemmas.{IsSearch, pending-set, search_start, search_skip, search_mark, search_unreached, top_inside, links_at, length-links_of}
use Rattle.bl_layout.proofs.struct_search.leads_to.Goals as goal

pub loop-x-init : goal.loop-x-init
loop-x-init c =
    rw c.in_ok-stack.ensures.items (search_start (links_of c.args.links.now) c.args.t c.args.s c.args.marks.now (omega (arith, length-links_of c.args.links.now, c.requires.from)) c.requires.apart)

pub bounds-marks-x : goal.bounds-marks-x
bounds-marks-x c =
    let top = top_inside (links_of c.args.links.now) c.args.t c.args.s c.loop-x.marks c.loop-x.stack.items c.pop.new.self.items c.in-Some.x c.loop-x.invariant c.in-Some.ensures.items in
    omega (arith, top, length-links_of c.args.links.now, c.loop-x.auto.marks, c.requires.marks)

pub bounds-marks-x-then-not-marks-x : goal.bounds-marks-x-then-not-marks-x
bounds-marks-x-then-not-marks-x c =
    let top = top_inside (links_of c.args.links.now) c.args.t c.args.s c.loop-x.marks c.loop-x.stack.items c.pop.new.self.items c.in-Some.x c.loop-x.invariant c.in-Some.ensures.items in
    omega (arith, top, length-links_of c.args.links.now, c.loop-x.auto.marks, c.requires.marks)

pub bounds-links-x : goal.bounds-links-x
bounds-links-x c =
    let top = top_inside (links_of c.args.links.now) c.args.t c.args.s c.loop-x.marks c.loop-x.stack.items c.pop.new.self.items c.in-Some.x c.loop-x.invariant c.in-Some.ensures.items in
    omega (arith, top, length-links_of c.args.links.now)

pub loop-x-smaller-in-Continue-branch-2 : goal.loop-x-smaller-in-Continue-branch-2
loop-x-smaller-in-Continue-branch-2 c =
    let links = links_of c.args.links.now in
    let x = c.in-Some.x in
    let top = top_inside links c.args.t c.args.s c.loop-x.marks c.loop-x.stack.items c.pop.new.self.items x c.loop-x.invariant c.in-Some.ensures.items in
    let inside : x < length c.args.links.now = omega (arith, top, length-links_of c.args.links.now) in
    let marks : x < length c.loop-x.marks = omega (arith, inside, c.loop-x.auto.marks, c.requires.marks) in
    let more : c.deref.result.now ≡ get_or links x [] = c.deref.ensures.value ∙ links_at c.args.links.now x c.index-links-x.result inside c.index-links-x.is in
    let less = pending-set links c.loop-x.marks x top marks c.if-not-marks-x.true in
    let before = ap length c.in-Some.ensures.items ∙ length-append c.pop.new.self.items (x ∷ []) in
    let after = ap length c.in_ok-extend_from_slice.ensures.items ∙ length-append c.pop.new.self.items c.deref.result.now in
    let long = ap length more in
    omega (arith, less, before, after, long)

pub loop-x-preserved-in-Continue-branch-2 : goal.loop-x-preserved-in-Continue-branch-2
loop-x-preserved-in-Continue-branch-2 c =
    let links = links_of c.args.links.now in
    let x = c.in-Some.x in
    let top = top_inside links c.args.t c.args.s c.loop-x.marks c.loop-x.stack.items c.pop.new.self.items x c.loop-x.invariant c.in-Some.ensures.items in
    let inside : x < length c.args.links.now = omega (arith, top, length-links_of c.args.links.now) in
    let marks : x < length c.loop-x.marks = omega (arith, inside, c.loop-x.auto.marks, c.requires.marks) in
    let more : c.deref.result.now ≡ get_or links x [] = c.deref.ensures.value ∙ links_at c.args.links.now x c.index-links-x.result inside c.index-links-x.is in
    let was : IsSearch links c.args.t c.args.s c.loop-x.marks (c.pop.new.self.items ++ x ∷ []) = subst (λ (xs : List ℕ). IsSearch links c.args.t c.args.s c.loop-x.marks xs) c.in-Some.ensures.items c.loop-x.invariant in
    rw (c.in_ok-extend_from_slice.ensures.items, more) (search_mark links c.args.t c.args.s c.loop-x.marks c.pop.new.self.items x c.requires.inside was marks c.if-x-s.false)

pub loop-x-preserved : goal.loop-x-preserved
loop-x-preserved c =
    let links = links_of c.args.links.now in
    let was : IsSearch links c.args.t c.args.s c.loop-x.marks (c.pop.new.self.items ++ c.in-Some.x ∷ []) = subst (λ (xs : List ℕ). IsSearch links c.args.t c.args.s c.loop-x.marks xs) c.in-Some.ensures.items c.loop-x.invariant in
    search_skip links c.args.t c.args.s c.loop-x.marks c.pop.new.self.items c.in-Some.x was c.if-not-marks-x.false

pub returns-clause-answer : goal.returns-clause-answer
returns-clause-answer c =
    let links = links_of c.args.links.now in
    let none : c.loop-x.stack.items ≡ [] = nil_from_length c.loop-x.stack.items (omega (arith, c.loop-x.stack.ok, c.in_default.ensures.cases.0)) in
    sym (search_unreached links c.args.t c.args.s c.loop-x.marks (subst (λ (xs : List ℕ). IsSearch links c.args.t c.args.s c.loop-x.marks xs) none c.loop-x.invariant))
