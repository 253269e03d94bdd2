-- Reading things one after another, as a loop does: what was read and what is still to be read is all that is read.
use Rattle.std.proofs.Common.{◌≡◌, ℕ, suc, ◌-◌, ◌+◌, ◌≤◌, ◌<◌, List, [], ◌∷◌, ◌++◌, Result, Ok, Err, refl, sym, ap, ◌∙◌, append_assoc, arith}
use Rattle.std.proofs.lemmas.List.{append-nil}
use Rattle.bl_format.specs.declared.catalogue.SdnaFault.{SdnaFault}
use Rattle.bl_format.specs.declared.catalogue.SdnaFault.TheVariants.{NoMemory}
use Rattle.bl_format.specs.Schema.{◌>>=◌, Reading, Fails, many_at}

-- what is read behind some elements, with these in front
abbrev pub with_front : {A : Type 0} → List A → Reading (List A) → Reading (List A)
with_front front read = read >>= λ x. Ok (front ++ x.0, x.1)

pub regroup : {A : Type 0} (front : List A) (a : A) (read : Reading (List A)) → with_front front (read >>= λ x. Ok (a ∷ x.0, x.1)) ≡ with_front (front ++ a ∷ []) read
regroup {A} front a (Ok x) = ap (λ (xs : List A). Ok (xs, x.1)) (simp append_assoc)
regroup front a (Err f) = refl

module _ {A : Type 0} (one : ℕ → Reading A) where
  pub goes_on : (front : List A) (count i at : ℕ) (a : A) (after : ℕ) (total : Reading (List A)) → i < count → one at ≡ Ok (a, after)
      → with_front front (many_at one (count - i) at) ≡ total → with_front (front ++ a ∷ []) (many_at one (count - (i + 1)) after) ≡ total
  unfolding many_at
  goes_on front count i at a after total lt h so_far =
      let k : count - i ≡ suc (count - (i + 1)) = omega arith in
      let step : with_front front (many_at one (count - i) at) ≡ with_front (front ++ a ∷ []) (many_at one (count - (i + 1)) after) = rw (k, h) (regroup front a (many_at one (count - (i + 1)) after)) in
      sym step ∙ so_far

  pub is_done : (front : List A) (count i at : ℕ) (total : Reading (List A)) → count ≤ i → with_front front (many_at one (count - i) at) ≡ total → total ≡ Ok (front, at)
  unfolding many_at
  is_done front count i at total le so_far =
      let k : count - i ≡ 0 = omega arith in
      let step : with_front front (many_at one (count - i) at) ≡ Ok (front, at) = rw k (ap (λ (xs : List A). Ok (xs, at)) (append-nil front)) in
      sym so_far ∙ step

  pub ends : (e : SdnaFault) (front : List A) (count i at : ℕ) (total : Reading (List A)) → i < count → Fails e (one at)
      → with_front front (many_at one (count - i) at) ≡ total → Fails e total
  unfolding many_at
  ends NoMemory front count i at total lt h so_far = tt
  ends e front count i at total lt h so_far =
      let k : count - i ≡ suc (count - (i + 1)) = omega arith in
      let step : with_front front (many_at one (count - i) at) ≡ Err e = rw (k, h) refl in
      sym so_far ∙ step

-- a call that answered a fault exactly failed by it
pub fails_exactly : {Y : Type 0} (e : SdnaFault) (read : Result Y SdnaFault) → Err e ≡ read → Fails e read
fails_exactly NoMemory read is = tt
fails_exactly e read is = sym is
