-- Words on lists and numbers that the definitions share. All are this project's own.
use Rattle.std.specs.Prelude.{◌≡◌, ℕ, zero, suc, ◌+◌, ◌*◌, ◌/◌, filter, Bool, true, ◌||◌, ◌==◌, if◌then◌else◌, List, [], ◌∷◌, ◌++◌, take, drop, replicate, Option, Some, None}
use Rattle.std.specs.List.{list_any, position_from}
use Rattle.std.specs.Option.{option_or}
use Rattle.std.specs.Str.{bytes_eq}
use Rattle.bl_num.specs.declared.number.Order.{Order}
use Rattle.bl_num.specs.Numbers.{number_of}

-- the n elements from a place on, or as many of them as there are
abbrev pub part : {X : Type 0} → List X → ℕ → ℕ → List X
part xs at n = take n (drop at xs)

-- the number that the n bytes from a place on spell
abbrev pub number_at : Order → List ℕ → ℕ → ℕ → ℕ
number_at order bytes at n = number_of order n (drop at bytes)

-- the numbers below n, rising
abbrev pub numbers_below : ℕ → List ℕ
numbers_below zero = []
numbers_below (suc n) = numbers_below n ++ n ∷ []

-- the place of the first element that passes
abbrev pub first_place : {X : Type 0} → (X → Bool) → List X → Option ℕ
first_place p xs = position_from p 0 xs

-- the place of the last element that passes, where the first stands at place i
abbrev pub last_from : {X : Type 0} → (X → Bool) → ℕ → List X → Option ℕ
last_from p i [] = None
last_from p i (x ∷ xs) = option_or (last_from p (suc i) xs) (if p x then Some i else None)

-- the place of the last element that passes
abbrev pub last_place : {X : Type 0} → (X → Bool) → List X → Option ℕ
last_place p xs = last_from p 0 xs

-- what a function gives for the first element for which it gives anything
abbrev pub find_map : {A X : Type 0} → (A → Option X) → List A → Option X
find_map f [] = None
find_map f (x ∷ xs) = option_or (f x) (find_map f xs)

-- the bytes before the first zero, or all of them
abbrev pub until_zero : List ℕ → List ℕ
until_zero [] = []
until_zero (zero ∷ bs) = []
until_zero (suc b ∷ bs) = suc b ∷ until_zero bs

-- a text is one of some texts
abbrev pub is_one_of : List ℕ → List (List ℕ) → Bool
is_one_of text texts = list_any (bytes_eq text) texts

-- the least multiple of 4 that is no less
abbrev pub aligned_place : ℕ → ℕ
aligned_place at = (at + 3) / 4 * 4

-- n zero bytes
abbrev pub zeros : ℕ → List ℕ
zeros n = replicate n 0

-- ---- what is reached from some numbers

-- a number is one of a list
abbrev pub contains : List ℕ → ℕ → Bool
contains xs x = list_any (λ y. y == x) xs

-- the numbers below n that are in a list, or to which a number of the list leads
abbrev pub one_link_further : (ℕ → ℕ → Bool) → ℕ → List ℕ → List ℕ
one_link_further leads n xs = filter (λ y. contains xs y || list_any (λ x. leads x y) xs) (numbers_below n)

-- the numbers below n at the end of a chain of at most so many links that begins in a list
unfoldable pub numbers_reached : (ℕ → ℕ → Bool) → ℕ → ℕ → List ℕ → List ℕ
numbers_reached leads n zero xs = filter (contains xs) (numbers_below n)
numbers_reached leads n (suc links) xs = one_link_further leads n (numbers_reached leads n links xs)

-- a chain of links from a number: each number leads to the next, and the last one is the end
abbrev pub IsChain : (ℕ → ℕ → Bool) → ℕ → List ℕ → ℕ → Type 0
IsChain leads x [] end = x ≡ end
IsChain leads x (y ∷ ys) end = (leads x y ≡ true) × IsChain leads y ys end
