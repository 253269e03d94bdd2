-- What is staged of a text that is added piece by piece.
use Rattle.std.proofs.Common.{◌≡◌, ◌≤◌, ℕ, ◌+◌, ◌-◌, List, [], ◌++◌, length, take, Option, Some, None, option_map, refl, sym, ap, subst, ◌∙◌, append_assoc, arith}
use Rattle.std.specs.Prelude.{IsSomeAnd}
use Rattle.std.proofs.lemmas.List.{append-nil, length-append, take_at}
use Rattle.bl_shelf.specs.Told.{Told, Staged, Held, bytes_under, held_of, push_in}
use Rattle.bl_file.specs.Held.{IsHeldAnd}
use Rattle.bl_writer.specs.Rendering.{Adds, AddsOf, HasRoom, Takes}

-- ---- pushes

-- a staged file with bytes more
abbrev longer : List ℕ → Staged → Staged
longer bytes s = record { name = s.name; bytes = s.bytes ++ bytes }

staged_twice : (s : Option Staged) (a b : List ℕ) → option_map (longer b) (option_map (longer a) s) ≡ option_map (longer (a ++ b)) s
staged_twice None a b = refl
staged_twice (Some s) a b = ap named (append_assoc s.bytes a b)
  where
    named : List ℕ → Option Staged
    named bytes = Some (record { name = s.name; bytes = bytes })

push_twice : (t : Option Told) (a b : List ℕ) → option_map (push_in b) (option_map (push_in a) t) ≡ option_map (push_in (a ++ b)) t
push_twice None a b = refl
push_twice (Some t) a b = ap told (staged_twice t.staged a b)
  where
    told : Option Staged → Option Told
    told s = Some (record { held = t.held; staged = s })

-- ---- texts

pub adds_none : (t : Option Told) (p : List ℕ) → Adds t p [] t p
adds_none t p = record { staged = ap (λ (x : List ℕ). option_map (push_in x) t) (sym (append-nil p)) }

-- bytes more are held back
pub adds_behind : (t : Option Told) (p s p' : List ℕ) → p' ≡ p ++ s → Adds t p s t p'
adds_behind t p s p' is = record { staged = ap (λ (x : List ℕ). option_map (push_in x) t) is }

module _ (t t1 t2 : Option Told) (p p1 p2 a b : List ℕ) where
  -- one text behind another
  pub adds_more : Adds t p a t1 p1 → Adds t1 p1 b t2 p2 → Adds t p (a ++ b) t2 p2
  adds_more first second = record {
    staged = second.staged ∙ sym (push_twice t1 p1 b)
        ∙ ap (option_map (push_in b)) first.staged
        ∙ push_twice t (p ++ a) b
        ∙ ap (λ (x : List ℕ). option_map (push_in x) t) (append_assoc p a b);
  }

  -- the same of texts of so many bytes
  pub adds_more_of : (n m : ℕ) → AddsOf t p a n t1 p1 → AddsOf t1 p1 b m t2 p2 → AddsOf t p (a ++ b) (n + m) t2 p2
  adds_more_of n m first second = record {
    adds = adds_more first.adds second.adds;
    length = omega (arith, length-append a b, first.length, second.length);
  }

-- all is pushed at the end
pub adds_all : (t t1 t2 : Option Told) (p1 text : List ℕ) → Adds t [] text t1 p1 → t2 ≡ option_map (push_in p1) t1
    → t2 ≡ option_map (push_in text) t
adds_all t t1 t2 p1 text adds is = is ∙ adds.staged

-- ---- the room

pub takes_none : (room : Option ℕ) (filled : ℕ) → Takes room filled 0 room filled
takes_none room filled = record { left = λ rest is. is ∙ ap Some (omega arith) }

-- one piece behind another
pub takes_more : (room room1 room2 : Option ℕ) (filled filled1 filled2 n m : ℕ)
    → Takes room filled n room1 filled1 → Takes room1 filled1 m room2 filled2 → Takes room filled (n + m) room2 filled2
takes_more room room1 room2 filled filled1 filled2 n m first second = record {
  left = λ rest full. second.left rest (first.left (m + rest) (full ∙ ap Some (omega arith)) ∙ ap Some (omega arith));
}

-- what is left behind a piece
pub room_behind : (room room' : Option ℕ) (filled filled' n m : ℕ) → HasRoom room filled (n + m) → Takes room filled n room' filled' → HasRoom room' filled' m
room_behind None room' filled filled' n m has takes = absurd has
room_behind (Some left) room' filled filled' n m has takes =
    let rest = left - (filled + n) in
    let is : room' ≡ Some (filled' + rest) = takes.left rest (ap Some (omega (arith, has))) in
    subst (λ r. HasRoom r filled' m) (sym is) (omega (arith, has))

-- where less is wanted there is room too
pub room_less : (room : Option ℕ) (filled n m : ℕ) → HasRoom room filled n → m ≤ n → HasRoom room filled m
room_less None filled n m has less = absurd has
room_less (Some left) filled n m has less = omega (arith, has, less)

-- ---- what is held

-- what is held is held after a call that changes no held file
pub IsHeldAnd-same : (t t' : Option Told) (name : List ℕ) (Such : List ℕ → Type 0) → held_of t' ≡ held_of t → IsHeldAnd t name Such → IsHeldAnd t' name Such
IsHeldAnd-same None None name Such same held = tt
IsHeldAnd-same None (Some t') name Such same held = absurd (cc)
IsHeldAnd-same (Some t) None name Such same held = tt
IsHeldAnd-same (Some t) (Some t') name Such same held =
    let files : t'.held ≡ t.held = cc in
    subst (λ (h : Held). IsSomeAnd (bytes_under name (record { held = h; staged = t'.staged })) Such) (sym files) held

value_and : (o : Option (List ℕ)) (P Q R : List ℕ → Type 0) → ((b : List ℕ) → P b → Q b → R b) → IsSomeAnd o P → IsSomeAnd o Q → IsSomeAnd o R
value_and (Some x) P Q R both p q = both x p q
value_and None P Q R both p q = p

-- two facts of what is held give a third
pub IsHeldAnd-both : (t : Option Told) (name : List ℕ) (P Q R : List ℕ → Type 0) → ((b : List ℕ) → P b → Q b → R b) → IsHeldAnd t name P → IsHeldAnd t name Q → IsHeldAnd t name R
IsHeldAnd-both None name P Q R both p q = tt
IsHeldAnd-both (Some t) name P Q R both p q = value_and (bytes_under name t) P Q R both p q

-- one fact of what is held gives another
pub IsHeldAnd-then : (t : Option Told) (name : List ℕ) (P Q : List ℕ → Type 0) → ((b : List ℕ) → P b → Q b) → IsHeldAnd t name P → IsHeldAnd t name Q
IsHeldAnd-then t name P Q then p = IsHeldAnd-both t name P P Q (λ b x y. then b x) p p

-- ---- the buffer

-- bytes behind those that were held back are held back with them
pub take_own : (front own rest : List ℕ) (at n : ℕ) → length front ≡ at → length own ≡ n → take (at + n) (front ++ (own ++ rest)) ≡ front ++ own
take_own front own rest at n front_len own_len =
    ap (λ (xs : List ℕ). take (at + n) xs) (sym (append_assoc front own rest))
    ∙ take_at (front ++ own) rest (at + n) (omega (arith, length-append front own, front_len, own_len))

module _ (t t1 : Option Told) (p buffer front own rest : List ℕ) (at n : ℕ) where
  -- so they are added
  pub adds_own : Adds t p [] t1 (take at buffer) → front ≡ take at buffer → length front ≡ at → length own ≡ n
      → Adds t p own t1 (take (at + n) (front ++ (own ++ rest)))
  adds_own adds is front_len own_len =
      adds_more t t1 t1 p (take at buffer) (take (at + n) (front ++ (own ++ rest))) [] own adds
      (adds_behind t1 (take at buffer) own _ (take_own front own rest at n front_len own_len ∙ ap (λ (x : List ℕ). x ++ own) is))

  pub adds_block : (block : List ℕ) → own ≡ block → Adds t p [] t1 (take at buffer) → front ≡ take at buffer → length front ≡ at → length own ≡ n
      → AddsOf t p block n t1 (take (at + n) (front ++ (own ++ rest)))
  adds_block block same adds is front_len own_len = record {
    adds = subst (λ (x : List ℕ). Adds t p x t1 (take (at + n) (front ++ (own ++ rest)))) same (adds_own adds is front_len own_len);
    length = ap length (sym same) ∙ own_len;
  }

-- they take as much room
pub takes_own : (room room1 : Option ℕ) (filled at n : ℕ) → Takes room filled 0 room1 at → Takes room filled n room1 (at + n)
takes_own room room1 filled at n takes = record {
  left = λ rest full. takes.left (n + rest) (full ∙ ap Some (omega arith)) ∙ ap Some (omega arith);
}
