-- Identifiers and their numbers.
use Rattle.std.proofs.Common.{◌≡◌, ℕ, ◌+◌, ◌≤◌, ◌<◌, Bool, true, false, cond, List, [], ◌∷◌, ◌++◌, length, Option, Some, None, refl, sym, ◌∙◌, ap, arith, inl, inr, eq-eqb}
use Rattle.std.specs.Prelude.{◌==◌, slice_index, unwrap_or}
use Rattle.std.specs.Str.{bytes_eq}
use Rattle.std.specs.BTreeMap.{BTreeMap, IsEmpty, get_by}
use Rattle.std.specs.declared.cmp.Ordering.{Ordering}
use Rattle.std.proofs.lemmas.Bool.{eqb-true, cases_lt}
use Rattle.std.proofs.lemmas.List.{length-append, get_or_push, get_or_append_left}
use Rattle.std.proofs.lemmas.Slice.Eq.{bytes_eq-Decides}
use Rattle.bl_layout.specs.Identifiers.{AreIdentifierNumbers, identifier_of}

-- what is known after the first i names: the number of each identifier among them, by which some name has it
pub record Knows (names : List (List ℕ)) (known : List ℕ → Option ℕ) (numbers : List ℕ) (i : ℕ) : Type 0 where
  pub len : length numbers ≡ i
  pub found : (q : List ℕ) (n : ℕ) → known q ≡ Some n → (n < length names) × (identifier_of names n ≡ q)
  pub numbered : (j : ℕ) → j < i → known (identifier_of names j) ≡ Some (slice_index numbers j)

pub bool_same : (a b : Bool) → (a ≡ true → b ≡ true) → (b ≡ true → a ≡ true) → a ≡ b
bool_same true b to from = sym (to refl)
bool_same false true to from = from refl
bool_same false false to from = refl

bytes_same : (xs ys : List ℕ) → bytes_eq xs ys ≡ true → xs ≡ ys
bytes_same xs ys e = (bytes_eq-Decides xs ys).0 e

same_bytes : (xs ys : List ℕ) → xs ≡ ys → bytes_eq xs ys ≡ true
same_bytes xs ys e = (bytes_eq-Decides xs ys).1 e

-- at the start nothing is known
pub Knows-none : (names : List (List ℕ)) (known : List ℕ → Option ℕ) → ((q : List ℕ) → known q ≡ None) → Knows names known [] 0
Knows-none names known none = record {
  len = refl;
  found = λ q n e. absurd (let x : None ≡ Some n = sym (none q) ∙ e in cc);
  numbered = λ j lt. absurd (omega arith);
}

-- one name more
pub Knows-push : (names : List (List ℕ)) (known next : List ℕ → Option ℕ) (numbers : List ℕ) (i number : ℕ) (identifier : List ℕ)
    → i < length names → identifier ≡ identifier_of names i → number ≡ unwrap_or (known identifier) i
    → ((q : List ℕ) → next q ≡ cond (bytes_eq identifier q) (Some number) (known q))
    → Knows names known numbers i → Knows names next (numbers ++ number ∷ []) (i + 1)
Knows-push names known next numbers i number identifier lt is is_number updates k = record {
  len = omega (arith, k.len, length-append numbers (number ∷ []));
  found = λ q n e. find q n (bytes_eq identifier q) refl (sym (updates q) ∙ e);
  numbered = λ j small. elim (cases_lt j i) [
    | inl below ↦ rw (updates (identifier_of names j), k.numbered j below) (old j below (bytes_eq identifier (identifier_of names j)) refl)
    | inr above ↦ (let at : j ≡ i = omega arith in rw (at, ← is, updates identifier, same_bytes identifier identifier refl) (ap Some (sym last)))
  ];
}
  where
    last : slice_index (numbers ++ number ∷ []) i ≡ number
    last = get_or_push numbers number 0 i k.len

    number_found : (o : Option ℕ) → known identifier ≡ o → number ≡ unwrap_or o i → (number < length names) × (identifier_of names number ≡ identifier)
    number_found None e same = rw same (lt, sym is)
    number_found (Some n) e same = rw same (k.found identifier n e)

    find : (q : List ℕ) (n : ℕ) (b : Bool) → bytes_eq identifier q ≡ b → cond b (Some number) (known q) ≡ Some n
        → (n < length names) × (identifier_of names n ≡ q)
    find q n true e given =
        let same : number ≡ n = cc in
        let is_q : identifier ≡ q = bytes_same identifier q e in
        rw (← same, ← is_q) (number_found (known identifier) refl is_number)
    find q n false e given = k.found q n given

    old : (j : ℕ) → j < i → (b : Bool) → bytes_eq identifier (identifier_of names j) ≡ b
        → cond b (Some number) (Some (slice_index numbers j)) ≡ Some (slice_index (numbers ++ number ∷ []) j)
    old j below true e =
        let is_j : identifier ≡ identifier_of names j = bytes_same identifier (identifier_of names j) e in
        let was : known identifier ≡ Some (slice_index numbers j) = ap known is_j ∙ k.numbered j below in
        let same : number ≡ slice_index numbers j = is_number ∙ ap (λ (o : Option ℕ). unwrap_or o i) was in
        ap Some (same ∙ sym (get_or_append_left numbers (number ∷ []) 0 j (omega (arith, k.len))))
    old j below false e = ap Some (sym (get_or_append_left numbers (number ∷ []) 0 j (omega (arith, k.len))))

-- after all names
pub Knows-all : (names : List (List ℕ)) (known : List ℕ → Option ℕ) (numbers : List ℕ) (i : ℕ)
    → length names ≤ i → i ≤ length names → Knows names known numbers i → AreIdentifierNumbers names numbers
Knows-all names known numbers i all within k = record {
  len = omega (arith, k.len);
  inside = λ n lt. (k.found (identifier_of names n) (slice_index numbers n) (k.numbered n (omega arith))).0;
  same = λ n m ln lm.
      let at_n = k.numbered n (omega arith) in
      let at_m = k.numbered m (omega arith) in
      bool_same (slice_index numbers n == slice_index numbers m) (bytes_eq (identifier_of names n) (identifier_of names m))
      (λ e. let same : slice_index numbers n ≡ slice_index numbers m = eqb-true _ _ e in
      let of_n = (k.found (identifier_of names n) (slice_index numbers n) at_n).1 in
      let of_m = (k.found (identifier_of names m) (slice_index numbers m) at_m).1 in
      same_bytes _ _ (sym of_n ∙ ap (identifier_of names) same ∙ of_m))
      (λ e. let same : identifier_of names n ≡ identifier_of names m = bytes_same _ _ e in
      let both : Some (slice_index numbers n) ≡ Some (slice_index numbers m) = sym at_n ∙ ap known same ∙ at_m in
      eq-eqb _ _ cc);
}

-- an empty map has nothing
pub get_by_empty : {K X : Type 0} (p : K → Ordering) (m : BTreeMap K X) → IsEmpty m → get_by p m ≡ None
get_by_empty p m e = rw e refl
