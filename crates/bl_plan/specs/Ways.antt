-- The way to a leaf by the places at which its members stand: how the code finds the member at which a leaf ends. This
-- project's own.
use Rattle.std.specs.Prelude.{◌≡◌, ◌<◌, ◌≤◌, ℕ, suc, ◌-◌, ◌%◌, List, [], ◌∷◌, length, Some}
use Rattle.bl_num.specs.declared.number.Width.{Width}
use Rattle.bl_format.specs.declared.catalogue.Catalogue.{Catalogue}
use Rattle.bl_format.specs.Layout.{MemberStep, member_count, member_offset, inner_struct, struct_length}

-- a place lies among the members of a struct
pub record IsAmongMembers (c : Catalogue) (w : Width) (s at : ℕ) : Type 0 where
  pub there : s < length c.structs
  pub inside : at < member_offset c w s (member_count c s)

-- member k of struct s has a place
pub record HasPlace (c : Catalogue) (w : Width) (s k at : ℕ) : Type 0 where
  pub there : k < member_count c s
  pub from : member_offset c w s k ≤ at
  pub to : at < member_offset c w s (suc k)

-- that place in the element of struct t that the member is there
abbrev pub place_inside : Catalogue → Width → ℕ → ℕ → ℕ → ℕ → ℕ
place_inside c w s k t at = (at - member_offset c w s k) % struct_length c t

-- a place's members, one in another, are those of a way
abbrev pub IsWay : Catalogue → Width → ℕ → ℕ → List MemberStep → Type 0
IsWay c w s at [] = ⊥
IsWay c w s at (x ∷ []) = (x.s ≡ s) × HasPlace c w s x.member at
IsWay c w s at (x ∷ y ∷ ys) =
    (x.s ≡ s) × HasPlace c w s x.member at × (inner_struct c s x.member ≡ Some y.s)
    × IsWay c w y.s (place_inside c w s x.member y.s at) (y ∷ ys)
