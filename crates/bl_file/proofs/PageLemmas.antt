-- What a page says of the bytes that are held.
use Rattle.std.proofs.Common.{◌≡◌, ℕ, ◌+◌, ◌-◌, ◌≤◌, ◌<◌, All, List, length, take, drop, ◌++◌, Option, Some, None, option_map, Result, refl, sym, ap, ◌∙◌, arith}
use Rattle.std.specs.Prelude.{IfSome, IsSomeAnd, IsErrOf}
use Rattle.std.specs.Option.{ForSome}
use Rattle.std.proofs.lemmas.List.{take_all, take-take, drop-drop, drop-take, take_at, drop_at, length-take-le, length-append}
use Rattle.std.proofs.Math.Seq.{take-add}
use Rattle.bl_shelf.specs.Told.{Told, bytes_under}
use Rattle.bl_shelf.specs.Contents.{Reaches, AreBytesAt, IsAbsentExactly, IsOfBytes}
use Rattle.bl_shelf.specs.declared.shelf.ShelfFault.{ShelfFault}
use Rattle.bl_shelf.specs.declared.shelf.ShelfFault.TheVariants.{Absent}
use Rattle.bl_file.specs.Held.{ForHeld, IfHeld, IsHeldAnd}
use Rattle.bl_file.specs.Pages.{HavePage}
use Rattle.bl_file.specs.Reading.{IsPartAt}
use Rattle.bl_file.proofs.HeldLemmas.{IsHeldAnd-ForHeld, IsHeldAnd-weaker, IsHeldAnd-both, AreBytesAt-IsPartAt}

-- two lists that begin alike have the same parts there
same_part : (k n f : ℕ) (x y : List ℕ) → k + n ≤ f → take f x ≡ take f y → take n (drop k x) ≡ take n (drop k y)
same_part k n f x y within same =
    sym (drop-take k n x) ∙ ap (drop k) (sym (take-take (k + n) f x within) ∙ ap (take (k + n)) same ∙ take-take (k + n) f y within) ∙ drop-take k n y

-- what stands in the page stands in the bytes
part_of : (size page_at filled at n : ℕ) (page b : List ℕ) → HavePage size page_at filled page b → page_at ≤ at → at - page_at + n ≤ filled
    → take n (drop at b) ≡ take n (drop (at - page_at) page)
part_of size page_at filled at n page b have behind within =
    let place : page_at + (at - page_at) ≡ at = omega (arith, behind) in
    ap (λ (i : ℕ). take n (drop i b)) (sym place) ∙ ap (take n) (sym (drop-drop (at - page_at) page_at b))
    ∙ same_part (at - page_at) n filled (drop page_at b) page within have.part

copied_of : (o : Option (List ℕ)) (size page_at filled at : ℕ) (page part : List ℕ) → IsSomeAnd o (HavePage size page_at filled page) → page_at ≤ at → at - page_at + length part ≤ filled
    → part ≡ take (length part) (drop (at - page_at) page) → option_map (λ bytes. take (length part) (drop at bytes)) o ≡ Some part
copied_of (Some b) size page_at filled at page part have behind within is = ap Some (part_of size page_at filled at (length part) page b have behind within ∙ sym is)
copied_of None size page_at filled at page part none behind within is = absurd none

module _ (told : Option Told) (name : List ℕ) (size page_at filled : ℕ) (page : List ℕ) (held : IsHeldAnd told name (HavePage size page_at filled page)) where
  -- what is copied of a page are bytes of the file
  pub copied_page : (at : ℕ) (part : List ℕ) → page_at ≤ at → at - page_at + length part ≤ filled → part ≡ take (length part) (drop (at - page_at) page) → AreBytesAt told name at part
  copied_page = go told held
    where
      go : (o : Option Told) → IsHeldAnd o name (HavePage size page_at filled page) → (at : ℕ) (part : List ℕ) → page_at ≤ at → at - page_at + length part ≤ filled
          → part ≡ take (length part) (drop (at - page_at) page) → AreBytesAt o name at part
      go None h at part behind within is = tt
      go (Some t) h at part behind within is = copied_of (bytes_under name t) size page_at filled at page part h behind within is

  -- the file reaches as far as its size
  pub page_reaches : (end : ℕ) → end ≤ size → Reaches told name end
  page_reaches end within =
      IsHeldAnd-ForHeld told name (λ bytes. end ≤ length bytes)
      (IsHeldAnd-weaker told name (HavePage size page_at filled page) (λ bytes. end ≤ length bytes) held (λ b have. let whole = have.whole in omega (arith, whole, within)))

  -- a page of no bytes says as much of the file
  pub empty_page : (other : List ℕ) → IsHeldAnd told name (HavePage size page_at 0 other)
  empty_page other =
      IsHeldAnd-weaker told name (HavePage size page_at filled page) (HavePage size page_at 0 other) held (λ b have. record { whole = have.whole; below = have.below; part = refl })

  -- a page that was read says of the file what it holds
  pub read_page : (at n : ℕ) (part now : List ℕ) → AreBytesAt told name at part → length part ≡ n → take n now ≡ part → IsHeldAnd told name (HavePage size at n now)
  read_page at n part now read len is =
      IsHeldAnd-both told name (HavePage size page_at filled page) (IsPartAt size at part) (HavePage size at n now) held
      (AreBytesAt-IsPartAt told name (HavePage size page_at filled page) size at part read held (λ b have. have.whole))
      (λ b have copied. record { whole = have.whole; below = have.below; part = ap (λ (i : ℕ). take i (drop at b)) (sym len) ∙ copied.bytes ∙ sym is })

  -- the file isn't gone
  pub held_present : {T : Type 0} (result : Result T ShelfFault) → IsAbsentExactly told name result → IsErrOf result Absent → told ≡ None
  held_present result absent is = go told held (absent.only is)
    where
      gone : (o : Option (List ℕ)) → IsSomeAnd o (HavePage size page_at filled page) → o ≡ None → ⊥
      gone None none is = none
      gone (Some b) have is = cc

      go : (o : Option Told) → IsHeldAnd o name (HavePage size page_at filled page) → IfSome o (λ t. bytes_under name t ≡ None) → o ≡ None
      go None h missed = refl
      go (Some t) h missed = absurd (gone (bytes_under name t) h missed)

first_of : (o : Option (List ℕ)) (size : ℕ) (page : List ℕ) → ForSome o (λ b. length b ≡ size) → IfSome o (All (λ byte. byte < 256)) → option_map (λ bytes. take (length page) (drop 0 bytes)) o ≡ Some page
    → IfSome o (HavePage size 0 (length page) page)
first_of None size page len below read = tt
first_of (Some b) size page len below read =
    record { whole = len b refl; below = below; part = let same : take (length page) b ≡ page = cc in same ∙ sym (take_all (length page) page (omega arith)) }

-- the first page says of the file what it holds
pub first_page : (told : Option Told) (name : List ℕ) (size n : ℕ) (page : List ℕ) → ForHeld told name (λ b. length b ≡ size) → IsOfBytes told name → AreBytesAt told name 0 page → n ≡ length page
    → IfHeld told name (HavePage size 0 n page)
first_page None name size n page len below read is = tt
first_page (Some t) name size n page len below read is =
    rw is (first_of (bytes_under name t) size page (len t refl) below read)

-- what is copied from so far behind the page's start are bytes of the file
pub copied_place : (told : Option Told) (name : List ℕ) (size page_at filled : ℕ) (page : List ℕ) → IsHeldAnd told name (HavePage size page_at filled page) → (at place : ℕ) (part : List ℕ) → page_at + place ≡ at
    → place + length part ≤ filled → part ≡ take (length part) (drop place page) → AreBytesAt told name at part
copied_place told name size page_at filled page held at place part begins within is =
    let far : at - page_at ≡ place = omega (arith, begins) in
    copied_page told name size page_at filled page held at part (omega (arith, begins)) (rw far within) (rw far is)

-- a front and what stands behind it, of some bytes
joined : (p q z : List ℕ) → take (length p) z ≡ p → take (length q) (drop (length p) z) ≡ q → take (length (p ++ q)) z ≡ p ++ q
joined p q z front rest = ap (λ (i : ℕ). take i z) (length-append p q) ∙ take-add (length p) (length q) z ∙ ap (λ (x : List ℕ). x ++ take (length q) (drop (length p) z)) front ∙ ap (λ (x : List ℕ). p ++ x) rest

joined_of : (o : Option (List ℕ)) (at : ℕ) (p q : List ℕ) → option_map (λ bytes. take (length p) (drop at bytes)) o ≡ Some p
    → option_map (λ bytes. take (length q) (drop (at + length p) bytes)) o ≡ Some q → option_map (λ bytes. take (length (p ++ q)) (drop at bytes)) o ≡ Some (p ++ q)
joined_of None at p q front rest = absurd (cc)
joined_of (Some b) at p q front rest =
    let first : take (length p) (drop at b) ≡ p = cc in
    let second : take (length q) (drop (at + length p) b) ≡ q = cc in
    ap Some (joined p q (drop at b) first (ap (take (length q)) (drop-drop (length p) at b) ∙ second))

joined_under : (told : Option Told) (name : List ℕ) (at : ℕ) (p q : List ℕ) → AreBytesAt told name at p → AreBytesAt told name (at + length p) q → AreBytesAt told name at (p ++ q)
joined_under None name at p q front rest = tt
joined_under (Some t) name at p q front rest = joined_of (bytes_under name t) at p q front rest

-- bytes of the file and those behind them, which are put where these end
pub next_part : (told : Option Told) (name : List ℕ) (at n m : ℕ) (x y : List ℕ) → n ≤ length x → AreBytesAt told name at (take n x) → AreBytesAt told name (at + n) (take m y)
    → AreBytesAt told name at (take (n + m) (take n x ++ y))
next_part told name at n m x y within front rest =
    let len : length (take n x) ≡ n = length-take-le n x within in
    let parts : take (n + m) (take n x ++ y) ≡ take n x ++ take m y =
    take-add n m (take n x ++ y) ∙ ap (λ (z : List ℕ). z ++ take m (drop n (take n x ++ y))) (take_at (take n x) y n len) ∙ ap (λ (z : List ℕ). take n x ++ take m z) (drop_at (take n x) y n len) in
    rw parts (joined_under told name at (take n x) (take m y) front (rw len rest))

-- the same of a shelf and a file that have stayed
pub part_more : (told told' : Option Told) (name name' : List ℕ) (at n m : ℕ) (x x' y : List ℕ) → told' ≡ told → name' ≡ name → x' ≡ take n x → n ≤ length x → AreBytesAt told name at (take n x)
    → AreBytesAt told' name' (at + n) (take m y) → AreBytesAt told name at (take (n + m) (x' ++ y))
part_more told told' name name' at n m x x' y same-told same-name front within done rest =
    rw front (next_part told name at n m x y within done (rw (sym same-told) (rw (sym same-name) rest)))
