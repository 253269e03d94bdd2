use Rattle.std.proofs.Common.{◌≡◌, ◌<◌, ◌+◌, List, ℕ, None, [], ◌∷◌, ◌++◌, length, map, ap, subst, sym, ◌∙◌, inl, inr, refl, arith}
use Rattle.std.proofs.lemmas.Result.{err_from_is_err_and}
use Rattle.std.proofs.lemmas.List.{map_push}
use Rattle.bl_format.specs.Words.{find_map, numbers_below}
use Rattle.bl_format.specs.Layout.{first_fault}
use Rattle.bl_layout.specs.Check.{struct_fault, offsets_in}
use Rattle.bl_layout.specs.Graph.{links_of}
use Rattle.bl_layout.proofs.OffsetLemmas.{find_map-pass, find_map-first, numbers-push}
use Rattle.bl_layout.proofs.offsets.all_offsets.Goals as goal

pub returns-in_err-struct_offsets-clause-refuses : goal.returns-in_err-struct_offsets-clause-refuses
unfolding first_fault
returns-in_err-struct_offsets-clause-refuses c =
    let cat = c.args.catalogue.now in
    let w = c.args.width in
    let p = err_from_is_err_and c.from_residual-in_err-struct_offsets.result c.from_residual-in_err-struct_offsets.ensures.1 in
    let inside : c.loop-s.s < length cat.structs = omega (arith, c.loop-s-test.true, ap length c.as_slice-structs.ensures) in
    rw (p.1, p.2) (elim c.in_err-struct_offsets.ensures.refuses [
      | inl e ↦ inl e
      | inr e ↦ inr (find_map-first (struct_fault cat w) c.loop-s.s (length cat.structs) c.in_err-struct_offsets.field-0.0 c.loop-s.invariant.none e inside)
    ])

pub loop-s-preserved : goal.loop-s-preserved
loop-s-preserved c =
    let cat = c.args.catalogue.now in
    let w = c.args.width in
    let s = c.loop-s.s in
    record {
      none = find_map-pass (struct_fault cat w) s (s + 1) c.loop-s.invariant.none c.in_ok-struct_offsets.ensures.passes refl;
      offsets = ap links_of c.in_ok-push.ensures.items ∙ map_push (λ v. v.items) c.loop-s.offsets.items c.in_ok-struct_offsets.field-0
          ∙ ap (λ (xs : List (List ℕ)). xs ++ c.in_ok-struct_offsets.field-0.items ∷ []) c.loop-s.invariant.offsets
          ∙ ap (λ (x : List ℕ). map (offsets_in cat w) (numbers_below s) ++ x ∷ []) c.in_ok-struct_offsets.ensures.offsets
          ∙ sym (numbers-push (offsets_in cat w) s (s + 1) refl);
      fresh = λ k d lt. let low = c.first_repeat-duplicate.ensures.marked k d lt in omega (arith, low);
    }

pub returns-clause-passes : goal.returns-clause-passes
unfolding first_fault
returns-clause-passes c =
    let cat = c.args.catalogue.now in
    let at : c.loop-s.s ≡ length cat.structs = omega (arith, c.loop-s-test.false, c.loop-s.auto.s-end, ap length c.as_slice-structs.ensures, c.requires.catalogue.few_structs) in
    subst (λ (n : ℕ). find_map (struct_fault cat c.args.width) (numbers_below n) ≡ None) at c.loop-s.invariant.none
