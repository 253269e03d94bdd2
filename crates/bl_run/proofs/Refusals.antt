-- Why the output of a draft isn't written: by its first float and its first limit.
use Rattle.std.proofs.Common.{◌≡◌, ◌⊎◌, inl, inr, ℕ, List, [], ◌∷◌, Option, Some, None, refl, sym, subst}
use Rattle.std.specs.Prelude.{option_map}
use Rattle.bl_format.specs.declared.catalogue.Catalogue.{Catalogue}
use Rattle.bl_format.specs.Nodes.{File}
use Rattle.bl_selection.specs.declared.draft.Draft.{Draft}
use Rattle.bl_selection.specs.Selection.{selection_clash}
use Rattle.bl_selection.specs.OutputSizes.{OutputFault, ManyNodes, LongPayload, LongOutput, output_fault}
use Rattle.bl_commands.specs.declared.ending.Ending.{Ending}
use Rattle.bl_commands.specs.Checks.{first_ending}
use Rattle.bl_answers.specs.Writing.{float_cast_ending, output_ending, writing_refusal}
use Rattle.bl_run.specs.Meaning.{IsOwnEnding}

-- ---- two checks, each by what it finds

module _ {X Y : Type 0} (p : X → Ending) (q : Y → Ending) where
  none_found : (a : Option X) (b : Option Y) → first_ending (option_map p a ∷ option_map q b ∷ []) ≡ None → (a ≡ None) × (b ≡ None)
  none_found (Some x) b is = absurd (cc)
  none_found None (Some y) is = absurd (cc)
  none_found None None is = (refl, refl)

  one_found : (a : Option X) (b : Option Y) (e : Ending) → first_ending (option_map p a ∷ option_map q b ∷ []) ≡ Some e
      → ((x : X) × (a ≡ Some x) × (e ≡ p x)) ⊎ ((y : Y) × (b ≡ Some y) × (e ≡ q y))
  one_found (Some x) b e is = inl (x, refl, cc)
  one_found None (Some y) e is = inr (y, refl, cc)
  one_found None None e is = absurd (cc)

-- ---- the refusal

module _ (files : List File) (d : Draft) where
  -- it is none exactly where no float and no limit is found
  pub refusal_none : selection_clash files d ≡ None → output_fault files d ≡ None → writing_refusal files d ≡ None
  unfolding writing_refusal
  refusal_none clash fault = rw (clash, fault) refl

  pub none_refused : writing_refusal files d ≡ None → (selection_clash files d ≡ None) × (output_fault files d ≡ None)
  unfolding writing_refusal
  none_refused is = none_found (float_cast_ending d.catalogue) output_ending (selection_clash files d) (output_fault files d) is

  -- a float is told first, and else the limit
  pub refusal_clash : (t k : ℕ) → selection_clash files d ≡ Some (t, k) → writing_refusal files d ≡ Some (float_cast_ending d.catalogue (t, k))
  unfolding writing_refusal
  refusal_clash t k clash = rw clash refl

  pub refusal_fault : (fault : OutputFault) → selection_clash files d ≡ None → output_fault files d ≡ Some fault → writing_refusal files d ≡ Some (output_ending fault)
  unfolding writing_refusal
  refusal_fault fault clash is = rw (clash, is) refl

  -- so each has its cause
  pub refused_by : (e : Ending) → writing_refusal files d ≡ Some e
      → ((place : ℕ × ℕ) × (selection_clash files d ≡ Some place) × (e ≡ float_cast_ending d.catalogue place))
      ⊎ ((fault : OutputFault) × (output_fault files d ≡ Some fault) × (e ≡ output_ending fault))
  unfolding writing_refusal
  refused_by e is = one_found (float_cast_ending d.catalogue) output_ending (selection_clash files d) (output_fault files d) e is

cast_own : (may_miss : List ℕ → Type 0) (c : Catalogue) (place : ℕ × ℕ) → IsOwnEnding may_miss (float_cast_ending c place)
cast_own may_miss c (t, k) = tt

limit_own : (may_miss : List ℕ → Type 0) (fault : OutputFault) → IsOwnEnding may_miss (output_ending fault)
limit_own may_miss (ManyNodes n) = tt
limit_own may_miss (LongPayload n) = tt
limit_own may_miss (LongOutput n) = tt

-- and is a command's own ending
pub refusal_own : (may_miss : List ℕ → Type 0) (files : List File) (d : Draft) (e : Ending) → writing_refusal files d ≡ Some e → IsOwnEnding may_miss e
refusal_own may_miss files d e is = by_cause (refused_by files d e is)
  where
    by_cause : ((place : ℕ × ℕ) × (selection_clash files d ≡ Some place) × (e ≡ float_cast_ending d.catalogue place))
        ⊎ ((fault : OutputFault) × (output_fault files d ≡ Some fault) × (e ≡ output_ending fault)) → IsOwnEnding may_miss e
    by_cause (inl cast) = subst (IsOwnEnding may_miss) (sym cast.2) (cast_own may_miss d.catalogue cast.0)
    by_cause (inr limit) = subst (IsOwnEnding may_miss) (sym limit.2) (limit_own may_miss limit.0)
