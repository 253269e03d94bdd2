-- What is held, and where the elements of a node stand.
use Rattle.std.proofs.Common.{◌≡◌, ◌≢◌, ◌<◌, ◌≤◌, ℕ, zero, suc, ◌+◌, ◌*◌, Bool, true, false, cond, List, length, Option, Some, None, refl, arith, eqb-true}
use Rattle.std.specs.Prelude.{◌==◌, nat_le, nat_lt, IsSomeAnd}
use Rattle.std.proofs.lemmas.Bool.{leb-false, ltb-false, false_from_ne_true}
use Rattle.bl_format.specs.declared.file.Head.{Head}
use Rattle.bl_format.specs.declared.catalogue.Catalogue.{Catalogue}
use Rattle.bl_format.specs.Layout.{struct_length}
use Rattle.bl_format.specs.Nodes.{BadStruct, ShortBlock, node_fault}
use Rattle.bl_shelf.specs.Told.{Told, bytes_under}
use Rattle.bl_file.specs.Held.{IsHeldAnd}

-- ---- what is held

both_of : (o : Option (List ℕ)) (P Q R : List ℕ → Type 0) → IsSomeAnd o P → IsSomeAnd o Q
    → ((b : List ℕ) → P b → Q b → R b) → IsSomeAnd o R
both_of None P Q R p q both = p
both_of (Some b) P Q R p q both = both b p q

-- two facts of what is held make a third
pub held_both : (told : Option Told) (name : List ℕ) (P Q R : List ℕ → Type 0) → IsHeldAnd told name P → IsHeldAnd told name Q
    → ((b : List ℕ) → P b → Q b → R b) → IsHeldAnd told name R
held_both None name P Q R p q both = tt
held_both (Some t) name P Q R p q both = both_of (bytes_under name t) P Q R p q both

one_of : (o : Option (List ℕ)) (P R : List ℕ → Type 0) → IsSomeAnd o P → ((b : List ℕ) → P b → R b) → IsSomeAnd o R
one_of None P R p so = p
one_of (Some b) P R p so = so b p

-- and one makes another
pub held_so : (told : Option Told) (name : List ℕ) (P R : List ℕ → Type 0) → IsHeldAnd told name P
    → ((b : List ℕ) → P b → R b) → IsHeldAnd told name R
held_so None name P R p so = tt
held_so (Some t) name P R p so = one_of (bytes_under name t) P R p so

-- ---- where elements stand

-- a struct node has a struct, and its elements stand in its payload
pub record HasElements (c : Catalogue) (x : Head) : Type 0 where
  pub struct : x.index < length c.structs
  pub fits : x.count * struct_length c x.index ≤ x.len

-- so it is where it has no fault
pub faultless : (c : Catalogue) (x : Head) → node_fault c x ≡ None → (x.index == 0) ≡ false → HasElements c x
faultless c x none some =
    go (x.index == 0) (nat_le (length c.structs) x.index) (nat_lt x.len (x.count * struct_length c x.index)) refl refl some none
  where
    go : (a b d : Bool) → nat_le (length c.structs) x.index ≡ b → nat_lt x.len (x.count * struct_length c x.index) ≡ d → a ≡ false
        → cond a None (cond b (Some (BadStruct x.at)) (cond d (Some (ShortBlock x.at)) None)) ≡ None → HasElements c x
    go true b d past short some e = absurd (cc)
    go false true d past short some e = absurd (cc)
    go false false true past short some e = absurd (cc)
    go false false false past short some e = record {
      struct = omega (arith, leb-false (length c.structs) x.index past);
      fits = omega (arith, ltb-false x.len (x.count * struct_length c x.index) short);
    }

-- so it is where it has no fault and isn't raw
pub has_elements : (c : Catalogue) (x : Head) → node_fault c x ≡ None → x.index ≢ 0 → HasElements c x
has_elements c x none some = faultless c x none (false_from_ne_true (x.index == 0) (λ raw. some (eqb-true x.index 0 raw)))

-- an element stands before the end of all
pub element_before : (e n size : ℕ) → e < n → e * size + size ≤ n * size
element_before e zero size lt = absurd (omega arith)
element_before zero (suc n) size lt = omega arith
element_before (suc e) (suc n) size lt = let before = element_before e n size (omega arith) in omega (arith, before)
