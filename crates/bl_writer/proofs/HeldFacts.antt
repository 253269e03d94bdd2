-- What is held and such in two ways, and what is read of it.
use Rattle.std.proofs.Common.{◌≡◌, ℕ, List, length, take, drop, Option, Some, None, option_map, sym, subst}
use Rattle.std.specs.Prelude.{IsSomeAnd}
use Rattle.bl_shelf.specs.Told.{Told, bytes_under}
use Rattle.bl_shelf.specs.Contents.{AreBytesAt}
use Rattle.bl_file.specs.Held.{IsHeldAnd}
use Rattle.bl_format.specs.Words.{part}

value_both : (o : Option (List ℕ)) (P Q R : List ℕ → Type 0)
    → IsSomeAnd o P → IsSomeAnd o Q → ((b : List ℕ) → P b → Q b → R b) → IsSomeAnd o R
value_both (Some b) P Q R first second gives = gives b first second
value_both None P Q R first second gives = absurd first

-- what follows from two facts of the bytes is so of what is held
pub held_both : (told : Option Told) (name : List ℕ) (P Q R : List ℕ → Type 0)
    → IsHeldAnd told name P → IsHeldAnd told name Q → ((b : List ℕ) → P b → Q b → R b) → IsHeldAnd told name R
held_both None name P Q R first second gives = tt
held_both (Some t) name P Q R first second gives = value_both (bytes_under name t) P Q R first second gives

-- what follows from one fact is so too
pub held_weaker : (told : Option Told) (name : List ℕ) (P R : List ℕ → Type 0)
    → IsHeldAnd told name P → ((b : List ℕ) → P b → R b) → IsHeldAnd told name R
held_weaker told name P R first gives = held_both told name P P R first first (λ b p q. gives b p)

value_part : (o : Option (List ℕ)) (at : ℕ) (dst : List ℕ)
    → option_map (λ b. take (length dst) (drop at b)) o ≡ Some dst → IsSomeAnd o (λ b. dst ≡ part b at (length dst))
value_part (Some b) at dst is = (let same : take (length dst) (drop at b) ≡ dst = cc in sym same)
value_part None at dst is = absurd (cc)

-- what was read is a part of what is held
pub held_part : (told : Option Told) (name : List ℕ) (at : ℕ) (dst : List ℕ)
    → AreBytesAt told name at dst → IsHeldAnd told name (λ b. dst ≡ part b at (length dst))
held_part None name at dst are = tt
held_part (Some t) name at dst are = value_part (bytes_under name t) at dst are

-- what is held and such where a shelf tells the same under the same name
pub held_same : (told told' : Option Told) (name name' : List ℕ) (P : List ℕ → Type 0)
    → told' ≡ told → name' ≡ name → IsHeldAnd told' name' P → IsHeldAnd told name P
held_same told told' name name' P same also held =
    subst (λ (n : List ℕ). IsHeldAnd told n P) also (subst (λ (t : Option Told). IsHeldAnd t name' P) same held)

-- what was read under the same name of a shelf that tells the same
pub held_part_same : (told told' : Option Told) (name name' : List ℕ) (at : ℕ) (dst : List ℕ)
    → told' ≡ told → name' ≡ name → AreBytesAt told' name' at dst → IsHeldAnd told name (λ b. dst ≡ part b at (length dst))
held_part_same told told' name name' at dst same also are =
    held_part told name at dst (subst (λ (n : List ℕ). AreBytesAt told n at dst) also (subst (λ (t : Option Told). AreBytesAt t name' at dst) same are))
