-- A text that is put piece by piece is put whole, or a part of it.
use Rattle.std.proofs.Common.{◌≡◌, ◌≤◌, ◌<◌, inl, inr, ℕ, zero, suc, ◌+◌, List, [], ◌++◌, length, take, drop, Option, Result, Ok, Err, refl, sym, ap, subst, ◌∙◌, append_assoc, arith}
use Rattle.std.specs.Prelude.{flat_map}
use Rattle.std.proofs.Math.Seq.{take-add}
use Rattle.std.proofs.lemmas.Bool.{cases_lt}
use Rattle.std.proofs.lemmas.List.{append-nil, length-append, length-drop, drop-drop, take_all, take-append-le, take-append-drop, drop-append-le, take_at}
use Rattle.bl_format.specs.Words.{numbers_below}
use Rattle.bl_format.proofs.LeavesApart.{flat_map-numbers_below}
use Rattle.bl_commands.specs.declared.ending.Ending.{Ending}
use Rattle.bl_commands.specs.Texts.{Text}
use Rattle.bl_shelf.specs.Written.{Grows, GrowsByPrefix}
use Rattle.bl_shelf.specs.declared.sink.Sink.{Ghosts}
use Rattle.bl_run.specs.Blame.{BlamesRisen}
use Rattle.bl_run.specs.Printing.{Adds, IsCut, Puts, PutsLater}
use Rattle.bl_run.proofs.Written.{grown_twice, same_grown}

-- ---- lists

-- the first n of one list, and the first m of what is left and another
take_twice : (n m : ℕ) (xs ys : List ℕ) → n ≤ length xs → take n xs ++ take m (drop n xs ++ ys) ≡ take (n + m) (xs ++ ys)
take_twice n m xs ys le = rw (take-add n m (xs ++ ys), take-append-le n xs ys le, drop-append-le n xs ys le) refl

drop_twice : (n m : ℕ) (xs ys : List ℕ) → n ≤ length xs → drop m (drop n xs ++ ys) ≡ drop (n + m) (xs ++ ys)
drop_twice n m xs ys le = rw (← drop-append-le n xs ys le) (drop-drop m n (xs ++ ys))

-- ---- pieces

pub adds_nothing : (w : Option Text) (p : Text) → Adds w p [] w p
adds_nothing w p = record {
  put = 0;
  within = omega arith;
  grows = same_grown w w refl;
  held_back = sym (append-nil p);
}

module _ (w w1 w2 : Option Text) (p p1 s t : Text) where
  -- one text behind another
  pub adds_more : (p2 : Text) → Adds w p s w1 p1 → Adds w1 p1 t w2 p2 → Adds w p (s ++ t) w2 p2
  adds_more p2 a b =
      let n = a.put in
      let m = b.put in
      let xs = p ++ s in
      let le = a.within in
      let le' = b.within in
      let whole : xs ++ t ≡ p ++ (s ++ t) = append_assoc p s t in
      let held : p1 ≡ drop n xs = a.held_back in
      let first = a.grows in
      let second : Grows w1 (take m (drop n xs ++ t)) w2 = subst (λ (x : Text). Grows w1 (take m (x ++ t)) w2) held b.grows in
      let both : Grows w (take n xs ++ take m (drop n xs ++ t)) w2 = grown_twice (take n xs) (take m (drop n xs ++ t)) w w1 w2 first second in
      record {
        put = n + m;
        within = omega (arith, le, le', ap length held, ap length whole, length-append p1 t, length-append xs t, length-drop n xs);
        grows = subst (λ (x : Text). Grows w x w2) (take_twice n m xs t le ∙ ap (take (n + m)) whole) both;
        held_back = b.held_back ∙ ap (λ (x : Text). drop m (x ++ t)) held ∙ drop_twice n m xs t le ∙ ap (drop (n + m)) whole;
      }

  -- a part of the second text behind the first
  pub adds_part : Adds w p s w1 p1 → GrowsByPrefix w1 (p1 ++ t) w2 → GrowsByPrefix w (p ++ (s ++ t)) w2
  adds_part a part =
      let n = a.put in
      let m = part.0 in
      let xs = p ++ s in
      let le = a.within in
      let whole : xs ++ t ≡ p ++ (s ++ t) = append_assoc p s t in
      let second : Grows w1 (take m (drop n xs ++ t)) w2 = subst (λ (x : Text). Grows w1 (take m (x ++ t)) w2) a.held_back part.1 in
      let both : Grows w (take n xs ++ take m (drop n xs ++ t)) w2 = grown_twice (take n xs) (take m (drop n xs ++ t)) w w1 w2 a.grows second in
      (n + m, subst (λ (x : Text). Grows w x w2) (take_twice n m xs t le ∙ ap (take (n + m)) whole) both)

-- a part of a text is a part of a longer one
pub part_longer : (w w' : Option Text) (a b : Text) → GrowsByPrefix w a w' → GrowsByPrefix w (a ++ b) w'
part_longer w w' a b part = elim (cases_lt part.0 (length a)) [
  | inl below ↦ (part.0, subst (λ (x : Text). Grows w x w') (sym (take-append-le part.0 a b (omega (arith, below)))) part.1)
  | inr above ↦ (length a, subst (λ (x : Text). Grows w x w') (take_all part.0 a (omega (arith, above)) ∙ sym (take_at a b (length a) refl)) part.1)
]

-- so of two texts
pub first_part : (w w' : Option Text) (p s t : Text) → GrowsByPrefix w (p ++ s) w' → GrowsByPrefix w (p ++ (s ++ t)) w'
first_part w w' p s t part = subst (λ (x : Text). GrowsByPrefix w x w') (append_assoc p s t) (part_longer w w' (p ++ s) t part)

-- ---- a text of two, that begins with nothing held back

module _ (w w1 w2 w3 : Option Text) (p p1 p2 s t text : Text) (empty : p ≡ []) (is : text ≡ s ++ t) where
  same_text : p ++ (s ++ t) ≡ text
  same_text = ap (λ (x : Text). x ++ (s ++ t)) empty ∙ sym is

  both_added : Adds w p s w1 p1 → Adds w1 p1 t w2 p2 → Adds w [] text w2 p2
  both_added a b = subst (λ (x : Text). Adds w x text w2 p2) empty (subst (λ (x : Text). Adds w p x w2 p2) (sym is) (adds_more w w1 w2 p p1 s t p2 a b))

  pub first_put : GrowsByPrefix w (p ++ s) w1 → GrowsByPrefix w text w1
  first_put part = subst (λ (x : Text). GrowsByPrefix w x w1) same_text (first_part w w1 p s t part)

  pub second_put : Adds w p s w1 p1 → GrowsByPrefix w1 (p1 ++ t) w2 → GrowsByPrefix w text w2
  second_put a part = subst (λ (x : Text). GrowsByPrefix w x w2) same_text (adds_part w w1 w2 p p1 s t a part)

  -- what was held back is put too
  pub all_put : Adds w p s w1 p1 → Adds w1 p1 t w2 p2 → Grows w2 p2 w3 → Grows w text w3
  all_put a b grows =
      let both = both_added a b in
      let n = both.put in
      let rest : Grows w2 (drop n text) w3 = subst (λ (x : Text). Grows w2 x w3) both.held_back grows in
      subst (λ (x : Text). Grows w x w3) (take-append-drop n text) (grown_twice (take n text) (drop n text) w w2 w3 both.grows rest)

  pub last_put : Adds w p s w1 p1 → Adds w1 p1 t w2 p2 → GrowsByPrefix w2 p2 w3 → GrowsByPrefix w text w3
  last_put a b part =
      let part' : GrowsByPrefix w2 (p2 ++ []) w3 = subst (λ (x : Text). GrowsByPrefix w2 x w3) (sym (append-nil p2)) part in
      subst (λ (x : Text). GrowsByPrefix w x w3) (append-nil text) (adds_part w w2 w3 [] p2 text [] (both_added a b) part')

-- ---- texts by numbers

-- the text of one number more
pub text_more : (f : ℕ → Text) (n : ℕ) → flat_map f (numbers_below (suc n)) ≡ flat_map f (numbers_below n) ++ f n
text_more f n = flat_map-numbers_below f n ∙ ap (λ (x : Text). flat_map f (numbers_below n) ++ x) (append-nil (f n))

-- what stands behind the texts of the numbers up to k
pub text_behind : (f : ℕ → Text) (n k : ℕ) → k < n → (rest : Text) × (flat_map f (numbers_below n) ≡ (flat_map f (numbers_below k) ++ f k) ++ rest)
text_behind f zero k lt = absurd (omega arith)
text_behind f (suc n) k lt = elim (cases_lt k n) [
  | inl below ↦ (
      let inner = text_behind f n k below in
      (inner.0 ++ f n, text_more f n ∙ ap (λ (x : Text). x ++ f n) inner.1 ∙ append_assoc (flat_map f (numbers_below k) ++ f k) inner.0 (f n)))
  | inr above ↦ (
      let last : k ≡ n = omega arith in
      ([], text_more f n ∙ ap (λ (m : ℕ). flat_map f (numbers_below m) ++ f m) (sym last) ∙ sym (append-nil (flat_map f (numbers_below k) ++ f k))))
]

-- the texts of all numbers below k are added, and a part of that of k: so is a part of those below n
pub numbers_part : (f : ℕ → Text) (n k : ℕ) (w w1 w2 : Option Text) (p p1 : Text) → k < n → Adds w p (flat_map f (numbers_below k)) w1 p1 → GrowsByPrefix w1 (p1 ++ f k) w2
    → GrowsByPrefix w (p ++ flat_map f (numbers_below n)) w2
numbers_part f n k w w1 w2 p p1 lt a part =
    let behind = text_behind f n k lt in
    let here : GrowsByPrefix w (p ++ (flat_map f (numbers_below k) ++ f k)) w2 = adds_part w w1 w2 p p1 (flat_map f (numbers_below k)) (f k) a part in
    let longer : GrowsByPrefix w ((p ++ (flat_map f (numbers_below k) ++ f k)) ++ behind.0) w2 = part_longer w w2 (p ++ (flat_map f (numbers_below k) ++ f k)) behind.0 here in
    subst (λ (x : Text). GrowsByPrefix w x w2) (append_assoc p (flat_map f (numbers_below k) ++ f k) behind.0 ∙ ap (λ (x : Text). p ++ x) (sym behind.1)) longer

-- the text of one number more is added
pub numbers_more : (f : ℕ → Text) (k : ℕ) (w w1 w2 : Option Text) (p p1 p2 : Text) → Adds w p (flat_map f (numbers_below k)) w1 p1 → Adds w1 p1 (f k) w2 p2
    → Adds w p (flat_map f (numbers_below (k + 1))) w2 p2
numbers_more f k w w1 w2 p p1 p2 a b =
    let next : k + 1 ≡ suc k = omega arith in
    subst (λ (x : Text). Adds w p x w2 p2) (sym (ap (λ (n : ℕ). flat_map f (numbers_below n)) next ∙ text_more f k)) (adds_more w w1 w2 p p1 (flat_map f (numbers_below k)) (f k) p2 a b)

-- ---- what is cut

module _ {O : Type 0} (h : Ghosts O) (o o1 o2 : O) where
  -- behind puts without a fault a cut is blamed on the sink as before
  pub cut_on : (text text' : Text) (e : Ending) → h.faults o1 ≡ h.faults o → IsCut h o1 o2 text' e → GrowsByPrefix (h.written o) text (h.written o2) → IsCut h o o2 text e
  cut_on text text' e same cut part = record {
    part = part;
    puts = let puts = cut.puts in omega (arith, same, puts);
    of_put = cut.of_put;
    blamed = subst (λ (n : ℕ). BlamesRisen e 0 0 0 0 n (h.faults o2)) same cut.blamed;
  }

-- a text of two: the first is added, and then the second, or that is cut
pub puts_more : {T O : Type 0} (h : Ghosts O) (o o1 o2 : O) (p p1 p2 s t : Text) (r : Result T Ending) → Adds (h.written o) p s (h.written o1) p1 → h.faults o1 ≡ h.faults o
    → PutsLater h o1 o2 p1 p2 t r → PutsLater h o o2 p p2 (s ++ t) r
puts_more h o o1 o2 p p1 p2 s t (Ok x) adds same puts = (adds_more _ _ _ p p1 s t p2 adds puts.0, puts.1 ∙ same)
puts_more h o o1 o2 p p1 p2 s t (Err e) adds same cut = cut_on h o o1 o2 _ _ e same cut (adds_part _ _ _ p p1 s t adds cut.part)

-- a text of two that begins with nothing held back, of which both are added: what is held back then is put, or cut
pub puts_last : {T O : Type 0} (h : Ghosts O) (o o1 o2 o3 : O) (p p1 p2 s t text : Text) (r : Result T Ending) → p ≡ [] → text ≡ s ++ t
    → Adds (h.written o) p s (h.written o1) p1 → h.faults o1 ≡ h.faults o → Adds (h.written o1) p1 t (h.written o2) p2 → h.faults o2 ≡ h.faults o1
    → Puts h o2 o3 p2 r → Puts h o o3 text r
puts_last h o o1 o2 o3 p p1 p2 s t text (Ok x) empty is first same second same' puts = (all_put _ _ _ _ p p1 p2 s t text empty is first second puts.0, puts.1 ∙ same' ∙ same)
puts_last h o o1 o2 o3 p p1 p2 s t text (Err e) empty is first same second same' cut = cut_on h o o2 o3 _ _ e (same' ∙ same) cut (last_put _ _ _ _ p p1 p2 s t text empty is first second cut.part)

-- a text of one piece is cut, where nothing was held back
pub cut_first : {O : Type 0} (h : Ghosts O) (o o' : O) (p s text : Text) (e : Ending) → p ≡ [] → s ≡ text → IsCut h o o' (p ++ s) e → IsCut h o o' text e
cut_first h o o' p s text e empty is cut = subst (λ (x : Text). IsCut h o o' x e) (ap (λ (x : Text). x ++ s) empty ∙ is) cut

-- or it is added, and what is held back then is put, or cut
pub puts_once : {T O : Type 0} (h : Ghosts O) (o o1 o2 : O) (p p1 s text : Text) (r : Result T Ending) → p ≡ [] → s ≡ text
    → Adds (h.written o) p s (h.written o1) p1 → h.faults o1 ≡ h.faults o → Puts h o1 o2 p1 r → Puts h o o2 text r
puts_once h o o1 o2 p p1 s text r empty is adds same puts = puts_last h o o o1 o2 p p p1 [] s text r empty (sym is) (adds_nothing (h.written o) p) refl adds same puts

-- what is cut is answered by the ending
pub cut_answer : {O T : Type 0} (h : Ghosts O) (o o' : O) (text : Text) (r : Result T Ending) (y e : Ending) → r ≡ Err y → y ≡ e → IsCut h o o' text e → Puts h o o' text r
cut_answer h o o' text r y e is same cut = rw is (subst (IsCut h o o' text) (sym same) cut)

pub later_answer : {O T : Type 0} (h : Ghosts O) (o o' : O) (p p' text : Text) (r : Result T Ending) (y e : Ending) → r ≡ Err y → y ≡ e → IsCut h o o' (p ++ text) e → PutsLater h o o' p p' text r
later_answer h o o' p p' text r y e is same cut = rw is (subst (IsCut h o o' (p ++ text)) (sym same) cut)
