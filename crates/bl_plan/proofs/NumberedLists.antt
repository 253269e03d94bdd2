-- Lists that the numbers below n give, one behind another: how long they are, and which one begins at a place.
use Rattle.std.proofs.Common.{◌≡◌, ℕ, zero, suc, ◌+◌, ◌*◌, ◌≤◌, ◌<◌, All, List, [], ◌∷◌, ◌++◌, length, get_or, Option, None, refl, sym, ap, subst, ◌∙◌, arith, inl, inr, append-nil, append_assoc}
use Rattle.std.specs.Prelude.{map, flat_map, replicate}
use Rattle.std.proofs.Math.Path.{fun_ext}
use Rattle.std.proofs.lemmas.Bool.{cases_lt}
use Rattle.std.proofs.lemmas.List.{length-append, map-append, get_or_append_left}
use Rattle.std.proofs.lemmas.List.Elements.{All-head, All-tail}
use Rattle.bl_format.specs.Words.{numbers_below}
use Rattle.bl_format.proofs.LeavesApart.{flat_map-numbers_below}

-- one list more
pub flat_map-more : {X : Type 0} (f : ℕ → List X) (n : ℕ)
    → flat_map f (numbers_below (suc n)) ≡ flat_map f (numbers_below n) ++ f n
flat_map-more f n = flat_map-numbers_below f n ∙ ap (λ xs. flat_map f (numbers_below n) ++ xs) (append-nil (f n))

-- functions that agree on each number give the same lists
pub flat_map-same : {X : Type 0} (f g : ℕ → List X) (ns : List ℕ) → ((n : ℕ) → f n ≡ g n) → flat_map f ns ≡ flat_map g ns
flat_map-same f g ns same = ap (λ h. flat_map h ns) (fun_ext same)

-- what comes of all elements comes of those of each list
pub map-flat_map : {X Y : Type 0} (g : X → Y) (f : ℕ → List X) (ns : List ℕ)
    → map g (flat_map f ns) ≡ flat_map (λ n. map g (f n)) ns
map-flat_map g f [] = refl
map-flat_map g f (n ∷ ns) =
    map-append g (f n) (flat_map f ns) ∙ ap (λ ys. map g (f n) ++ ys) (map-flat_map g f ns)

-- what comes of elements that come of others, where it is what comes of what else comes of those
pub map-both : {A B C D : Type 0} (P : A → Type 0) (a : B → D) (h : A → B) (b : C → D) (g : A → C) (xs : List A) → All P xs
    → ((x : A) → P x → a (h x) ≡ b (g x)) → map a (map h xs) ≡ map b (map g xs)
map-both P a h b g [] all same = refl
map-both P a h b g (x ∷ xs) all same =
    let first = same x (All-head P x xs all) in
    let later = map-both P a h b g xs (All-tail P x xs all) same in
    λ i. first i ∷ later i

-- where nothing comes of any element
pub map-none : {X Y : Type 0} (g : X → Option Y) (xs : List X) → All (λ x. g x ≡ None) xs → map g xs ≡ replicate (length xs) None
map-none g [] all = refl
map-none {X} g (x ∷ xs) all =
    let first = All-head (λ (y : X). g y ≡ None) x xs all in
    let later = map-none g xs (All-tail (λ (y : X). g y ≡ None) x xs all) in
    λ i. first i ∷ later i

-- ---- lengths

-- lists of one length
pub length-alike : {X : Type 0} (f : ℕ → List X) (m n : ℕ) → ((k : ℕ) → length (f k) ≡ m) → length (flat_map f (numbers_below n)) ≡ m * n
length-alike f m zero alike = omega arith
length-alike f m (suc n) alike =
    ap length (flat_map-more f n)
    ∙ omega (arith, length-append (flat_map f (numbers_below n)) (f n), length-alike f m n alike, alike n)

-- a list and all before it are no more than all
pub length-up_to : {X : Type 0} (f : ℕ → List X) (k n : ℕ) → k < n
    → length (flat_map f (numbers_below k)) + length (f k) ≤ length (flat_map f (numbers_below n))
length-up_to f k zero lt = absurd (omega arith)
length-up_to f k (suc n) lt =
    let more : length (flat_map f (numbers_below (suc n))) ≡ length (flat_map f (numbers_below n)) + length (f n) =
    ap length (flat_map-more f n) ∙ length-append (flat_map f (numbers_below n)) (f n) in
    elim (cases_lt k n) [
      | inl less ↦ omega (arith, more, length-up_to f k n less)
      | inr most ↦ (let last : n ≡ k = omega arith in
          let same : length (flat_map f (numbers_below n)) + length (f n) ≡ length (flat_map f (numbers_below k)) + length (f k) =
          ap (λ m. length (flat_map f (numbers_below m)) + length (f m)) last in
          omega (arith, more, same))
    ]

-- ---- what stands at a place

-- the rest behind the lists that the numbers below m give
record Rest {X : Type 0} (f : ℕ → List X) (m n : ℕ) : Type 0 where
  rest : List X
  is : flat_map f (numbers_below n) ≡ flat_map f (numbers_below m) ++ rest

rest_of : {X : Type 0} (f : ℕ → List X) (m n : ℕ) → m ≤ n → Rest f m n
rest_of f m zero le =
    let same : 0 ≡ m = omega arith in
    subst (λ k. Rest f k 0) same (record { rest = []; is = refl })
rest_of {X} f m (suc n) le = elim (cases_lt n m) [
  | inl above ↦ (let same : suc n ≡ m = omega arith in
      subst (λ k. Rest f k (suc n)) same (record { rest = []; is = sym (append-nil (flat_map f (numbers_below (suc n)))) }))
  | inr below ↦ (let r = rest_of f m n below in
      record {
        rest = r.rest ++ f n;
        is = flat_map-more f n ∙ ap (λ xs. xs ++ f n) r.is ∙ append_assoc (flat_map f (numbers_below m)) r.rest (f n);
      })
]

no_more : {X : Type 0} (xs rest : List X) → length rest ≡ 0 → xs ++ rest ≡ xs
no_more xs [] none = append-nil xs
no_more xs (x ∷ rest) some = absurd (omega (arith, some))

-- lists that are no longer than those before some number are those
pub all-before : {X : Type 0} (f : ℕ → List X) (m n : ℕ) → m ≤ n
    → length (flat_map f (numbers_below n)) ≤ length (flat_map f (numbers_below m)) → flat_map f (numbers_below n) ≡ flat_map f (numbers_below m)
all-before f m n le no_longer =
    let r = rest_of f m n le in
    let none : length r.rest ≡ 0 = omega (arith, no_longer, ap length r.is, length-append (flat_map f (numbers_below m)) r.rest) in
    r.is ∙ no_more (flat_map f (numbers_below m)) r.rest none

-- where there is more than the lists before some number have, that isn't the last
not_all : {X : Type 0} (f : ℕ → List X) (m n : ℕ) → m ≤ suc n
    → length (flat_map f (numbers_below m)) < length (flat_map f (numbers_below (suc n))) → m ≤ n
not_all f m n le some = elim (cases_lt n m) [
  | inl above ↦ (let last : suc n ≡ m = omega arith in
      let same : length (flat_map f (numbers_below (suc n))) ≡ length (flat_map f (numbers_below m)) =
      ap (λ j. length (flat_map f (numbers_below j))) last in
      absurd (omega (arith, same, some)))
  | inr below ↦ below
]

behind_all : {X : Type 0} (xs ys : List X) (d : X) → get_or (xs ++ ys) (length xs) d ≡ get_or ys 0 d
behind_all [] ys d = refl
behind_all (x ∷ xs) ys d = behind_all xs ys d

-- list k begins at the place behind those before m: the lists between have nothing
pub record BeginsAt {X : Type 0} (f : ℕ → List X) (m n k : ℕ) : Type 0 where
  pub below : k < n
  pub same : flat_map f (numbers_below k) ≡ flat_map f (numbers_below m)
  pub some : 0 < length (f k)

-- an element at that place, whose list has number k
pub begins_at : {X : Type 0} (f : ℕ → List X) (number : X → ℕ) (m n : ℕ) (d : X) → ((k : ℕ) → All (λ x. number x ≡ k) (f k)) → m ≤ n
    → length (flat_map f (numbers_below m)) < length (flat_map f (numbers_below n))
    → BeginsAt f m n (number (get_or (flat_map f (numbers_below n)) (length (flat_map f (numbers_below m))) d))
begins_at f number m zero d bears le some = absurd (omega (arith, some))
begins_at {X} f number m (suc n) d bears le some =
    let at : ℕ = length (flat_map f (numbers_below m)) in
    let before : List X = flat_map f (numbers_below n) in
    let long : length (flat_map f (numbers_below (suc n))) ≡ length before + length (f n) =
    ap length (flat_map-more f n) ∙ length-append before (f n) in
    let low : m ≤ n = not_all f m n le some in
    elim (cases_lt at (length before)) [
      | inl inside ↦ (
          let h = begins_at f number m n d bears low inside in
          let here : get_or (flat_map f (numbers_below (suc n))) at d ≡ get_or before at d =
          ap (λ xs. get_or xs at d) (flat_map-more f n) ∙ get_or_append_left before (f n) d at inside in
          subst (λ x. BeginsAt f m (suc n) (number x)) (sym here)
          (record { below = omega (arith, h.below); same = h.same; some = h.some }))
      | inr outside ↦ (
          let same : before ≡ flat_map f (numbers_below m) = all-before f m n low outside in
          let first : at ≡ length before = ap length (sym same) in
          let here : get_or (flat_map f (numbers_below (suc n))) at d ≡ get_or (f n) 0 d =
          ap (λ xs. get_or xs at d) (flat_map-more f n) ∙ ap (λ j. get_or (before ++ f n) j d) first
          ∙ behind_all before (f n) d in
          let own : 0 < length (f n) = omega (arith, some, long, first) in
          let number_is : number (get_or (f n) 0 d) ≡ n = bears n 0 d own in
          subst (λ x. BeginsAt f m (suc n) (number x)) (sym here)
          (subst (BeginsAt f m (suc n)) (sym number_is) (record { below = omega arith; same = same; some = own })))
    ]
