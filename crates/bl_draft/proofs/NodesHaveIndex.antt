-- The nodes of an accepted file are raw or of a struct of its catalogue, as `whole_draft` requires.
use Rattle.std.proofs.Common.{◌≡◌, inl, inr, Bool, true, false, cond, List, [], ◌∷◌, length, Option, Some, None, refl, arith, eqb-true}
use Rattle.std.specs.Prelude.{All, ◌==◌, ◌||◌, nat_le, nat_lt, ◌*◌}
use Rattle.std.specs.Option.{option_or}
use Rattle.std.proofs.lemmas.Bool.{leb-false, ltb-true}
use Rattle.std.proofs.lemmas.List.Elements.{All-nil, All-cons, All-weaker}
use Rattle.std.proofs.lemmas.List.Sums.{AllPass-from_list_all}
use Rattle.std.specs.List.{list_all}
use Rattle.bl_format.specs.declared.file.Head.{Head}
use Rattle.bl_format.specs.declared.catalogue.Catalogue.{Catalogue}
use Rattle.bl_format.specs.Words.{find_map}
use Rattle.bl_format.specs.Layout.{struct_length}
use Rattle.bl_format.specs.Nodes.{NodeFault, BadStruct, ShortBlock, node_fault}
use Rattle.bl_draft.specs.Kept.{HasIndex}

-- a node without a fault has such an index
pub has_index : (c : Catalogue) (x : Head) → node_fault c x ≡ None → HasIndex c x
has_index c x none =
    go (x.index == 0) (nat_le (length c.structs) x.index) (nat_lt x.len (x.count * struct_length c x.index)) refl refl none
  where
    go : (a b d : Bool) → (x.index == 0) ≡ a → nat_le (length c.structs) x.index ≡ b
        → cond a None (cond b (Some (BadStruct x.at)) (cond d (Some (ShortBlock x.at)) None)) ≡ None → HasIndex c x
    go true b d raw past e = inl (eqb-true x.index 0 raw)
    go false true d raw past e = absurd (cc)
    go false false d raw past e = inr (omega (arith, leb-false (length c.structs) x.index past))

-- where no node has a fault, each has such an index
pub faultless-HasIndex : (c : Catalogue) (nodes : List Head) → find_map (node_fault c) nodes ≡ None
    → All (HasIndex c) nodes
faultless-HasIndex c [] none = All-nil (HasIndex c)
faultless-HasIndex c (x ∷ xs) none = go (node_fault c x) refl none (faultless-HasIndex c xs)
  where
    go : (o : Option NodeFault) → node_fault c x ≡ o → option_or o (find_map (node_fault c) xs) ≡ None
        → (find_map (node_fault c) xs ≡ None → All (HasIndex c) xs) → All (HasIndex c) (x ∷ xs)
    go None here later rest = All-cons (HasIndex c) x xs (has_index c x here) (rest later)
    go (Some y) here later rest = absurd (cc)

fits_by : (c : Catalogue) (x : Head) (a b : Bool) → (x.index == 0) ≡ a → nat_lt x.index (length c.structs) ≡ b
    → (a || b) ≡ true → HasIndex c x
fits_by c x true b raw past e = inl (eqb-true x.index 0 raw)
fits_by c x false true raw past e = inr (ltb-true x.index (length c.structs) past)
fits_by c x false false raw past e = absurd (cc)

-- where all pass the test, each has such an index
pub tested-HasIndex : (c : Catalogue) (nodes : List Head)
    → list_all (λ (x : Head). x.index == 0 || nat_lt x.index (length c.structs)) nodes ≡ true → All (HasIndex c) nodes
tested-HasIndex c nodes e =
    All-weaker (λ (x : Head). (x.index == 0 || nat_lt x.index (length c.structs)) ≡ true) (HasIndex c)
    (λ x pass. fits_by c x (x.index == 0) (nat_lt x.index (length c.structs)) refl refl pass) nodes
    (AllPass-from_list_all (λ (x : Head). x.index == 0 || nat_lt x.index (length c.structs)) nodes e)
