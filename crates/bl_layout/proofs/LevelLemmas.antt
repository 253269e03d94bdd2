-- The table of leaves, nesting by nesting, and where its parts stand.
use Rattle.std.proofs.Common.{◌≡◌, ℕ, zero, suc, ◌+◌, ◌<◌, ◌≤◌, List, [], ◌∷◌, length, get_or, set, map, None, refl, sym, ◌∙◌, ap, arith, inl, inr}
use Rattle.std.specs.declared.vec.Vec.{Vec}
use Rattle.std.specs.declared.alloc.Global.{Global}
use Rattle.std.proofs.lemmas.Bool.{cases_lt, cases_eq}
use Rattle.std.proofs.lemmas.List.{length-map, length-set, ext_get_or, get_or-set_same, get_or-set_other}
use Rattle.bl_num.specs.declared.number.Width.{Width}
use Rattle.bl_format.specs.declared.catalogue.Catalogue.{Catalogue}
use Rattle.bl_format.specs.declared.layout.Leaf.{Leaf}
use Rattle.bl_format.specs.Words.{numbers_below}
use Rattle.bl_format.specs.Limits.{deepest_nesting}
use Rattle.bl_format.specs.Layout.{struct_numbers, member_count, member_offset, nesting, leaves_of, first_fault, depth_fault}
use Rattle.bl_format.proofs.NumbersBelow.{get_or-by, length-numbers_below}
use Rattle.bl_layout.specs.Graph.{links_of}
use Rattle.bl_layout.specs.Check.{AreOffsets, offsets_in}
use Rattle.bl_layout.specs.Nesting.{nestings_in}
use Rattle.bl_layout.specs.Leaves.{StandBelow, InnerStand, lists_of}
use Rattle.bl_layout.proofs.SearchLemmas.{length-links_of, links_at}
use Rattle.bl_layout.proofs.UnfoldLemmas.{inner-nesting, inner-within, nesting-limit, nesting-some}

-- ---- lists by numbers

pub length-by : {A : Type 0} (f : ℕ → A) (n : ℕ) → length (map f (numbers_below n)) ≡ n
length-by f n = length-map (numbers_below n) f ∙ length-numbers_below n

-- ---- where members stand

-- the row of a struct
pub offsets-row : (c : Catalogue) (w : Width) (offsets : List (Vec ℕ Global)) (s : ℕ)
    → AreOffsets c w offsets → s < length c.structs → get_or (links_of offsets) s [] ≡ offsets_in c w s
offsets-row c w offsets s are lt =
    ap (λ (xs : List (List ℕ)). get_or xs s []) are ∙ get_or-by (offsets_in c w) (length c.structs) s [] lt

pub offsets-len : (c : Catalogue) (w : Width) (offsets : List (Vec ℕ Global))
    → AreOffsets c w offsets → length offsets ≡ length c.structs
offsets-len c w offsets are =
    sym (length-links_of offsets) ∙ ap length are ∙ length-by (offsets_in c w) (length c.structs)

-- the row of a struct as the code has it
pub row-as_held : (c : Catalogue) (w : Width) (offsets held : List (Vec ℕ Global)) (s : ℕ) (v : Vec ℕ Global) (row : List ℕ)
    → AreOffsets c w offsets → held ≡ offsets → s < length c.structs → v ≡ get_or held s v → row ≡ v.items
    → row ≡ offsets_in c w s
row-as_held c w offsets held s v row are same lt at is =
    let inside : s < length held = omega (arith, lt, offsets-len c w offsets are, ap length same) in
    is ∙ links_at held s v inside at
    ∙ ap (λ (xs : List (Vec ℕ Global)). get_or (links_of xs) s []) same
    ∙ offsets-row c w offsets s are lt

-- the place of a member in the row of its struct
pub offset-at : (c : Catalogue) (w : Width) (row : List ℕ) (s k : ℕ)
    → row ≡ offsets_in c w s → k < member_count c s → get_or row k 0 ≡ member_offset c w s k
offset-at c w row s k is lt =
    ap (λ (xs : List ℕ). get_or xs k 0) is ∙ get_or-by (member_offset c w s) (member_count c s) k 0 lt

pub row-len : (c : Catalogue) (w : Width) (row : List ℕ) (s : ℕ)
    → row ≡ offsets_in c w s → length row ≡ member_count c s
row-len c w row s is = ap length is ∙ length-by (member_offset c w s) (member_count c s)

-- ---- nestings

pub nestings-len : (c : Catalogue) (held : List ℕ) → held ≡ nestings_in c → length held ≡ length c.structs
nestings-len c held is = ap length is ∙ length-by (nesting c) (length c.structs)

pub nesting-at : (c : Catalogue) (held : List ℕ) (s : ℕ)
    → held ≡ nestings_in c → s < length c.structs → get_or held s 0 ≡ nesting c s
nesting-at c held s is lt =
    ap (λ (xs : List ℕ). get_or xs s 0) is ∙ get_or-by (nesting c) (length c.structs) s 0 lt

-- ---- the table

pub length-lists_of : (table : List (Vec Leaf Global)) → length (lists_of table) ≡ length table
length-lists_of table = length-map table (λ v. v.items)

-- the leaves of a number
pub lists-at : (table : List (Vec Leaf Global)) (t : ℕ) (v : Vec Leaf Global)
    → t < length table → v ≡ get_or table t v → v.items ≡ get_or (lists_of table) t []
lists-at table t v lt is = ap (λ (u : Vec Leaf Global). u.items) is ∙ at table t lt
  where
    at : (us : List (Vec Leaf Global)) (n : ℕ) → n < length us → (get_or us n v).items ≡ get_or (lists_of us) n []
    at [] n lt = absurd (omega arith)
    at (u ∷ us) zero lt = refl
    at (u ∷ us) (suc n) lt = at us n (omega arith)

-- the leaves of each struct that is nested less than n deep stand in a table, and those of each struct before the
-- one that was reached and nested n deep
pub record StandUpTo (c : Catalogue) (w : Width) (n at : ℕ) (table : List (List Leaf)) : Type 0 where
  pub below : StandBelow c w n table
  pub stand : (s : ℕ) → s < at → s < length c.structs → nesting c s < n + 1 → get_or table s [] ≡ leaves_of c w s

-- the structs in a struct that is nested n deep stand
pub UpTo-inner : (c : Catalogue) (w : Width) (n at s : ℕ) (table : List (List Leaf))
    → StandUpTo c w n at table → first_fault c w ≡ None → s < length c.structs → nesting c s ≡ n → InnerStand c w s table
UpTo-inner c w n at s table up e lt is = λ k t less inner.
    up.below.stand t (inner-within c s k t inner) (omega (arith, inner-nesting c w s k t e lt less inner))

-- one struct more, whose leaves were put into the table
pub UpTo-set : (c : Catalogue) (w : Width) (n at : ℕ) (table : List (List Leaf)) (leaves : List Leaf)
    → StandUpTo c w n at table → leaves ≡ leaves_of c w at → StandUpTo c w n (at + 1) (set table at leaves)
UpTo-set c w n at table leaves up are = record {
  below = record {
    len = length-set table at leaves ∙ up.below.len;
    stand = λ s lt low. at_struct s lt (up.below.stand s lt low);
  };
  stand = λ s before lt low. elim (cases_lt s at) [
    | inl less ↦ at_struct s lt (up.stand s less lt low)
    | inr most ↦ (let is : s ≡ at = omega arith in own s lt is)
  ];
}
  where
    own : (s : ℕ) → s < length c.structs → s ≡ at → get_or (set table at leaves) s [] ≡ leaves_of c w s
    own s lt is =
        let fits : at < length table = omega (arith, up.below.len) in
        ap (λ (m : ℕ). get_or (set table at leaves) m []) is
        ∙ get_or-set_same table at leaves [] fits
        ∙ are
        ∙ ap (leaves_of c w) (sym is)

    at_struct : (s : ℕ) → s < length c.structs → get_or table s [] ≡ leaves_of c w s
        → get_or (set table at leaves) s [] ≡ leaves_of c w s
    at_struct s lt was = elim (cases_eq s at) [
      | inl is ↦ own s lt is
      | inr apart ↦ get_or-set_other table at s leaves [] apart ∙ was
    ]

-- one struct more, of another nesting
pub UpTo-pass : (c : Catalogue) (w : Width) (n at : ℕ) (table : List (List Leaf))
    → StandUpTo c w n at table → (nesting c at ≡ n → ⊥) → StandUpTo c w n (at + 1) table
UpTo-pass c w n at table up other = record {
  below = up.below;
  stand = λ s before lt low. elim (cases_lt s at) [
    | inl less ↦ up.stand s less lt low
    | inr most ↦ (let is : s ≡ at = omega arith in up.below.stand s lt (below_it s is low))
  ];
}
  where
    below_it : (s : ℕ) → s ≡ at → nesting c s < n + 1 → nesting c s < n
    below_it s is low = elim (cases_lt (nesting c s) n) [
      | inl less ↦ less
      | inr most ↦ absurd (other (let here : nesting c at ≡ nesting c s = ap (nesting c) (sym is) in omega arith))
    ]

-- behind the last struct
pub UpTo-all : (c : Catalogue) (w : Width) (n at : ℕ) (table : List (List Leaf))
    → StandUpTo c w n at table → length c.structs ≤ at → StandBelow c w (n + 1) table
UpTo-all c w n at table up all = record { len = up.below.len; stand = λ s lt low. up.stand s (omega arith) lt low }

-- no struct is nested less deep than 1
pub Below-none : (c : Catalogue) (w : Width) (table : List (List Leaf))
    → length table ≡ length c.structs → first_fault c w ≡ None → StandBelow c w 1 table
Below-none c w table len e = record { len = len; stand = λ s lt low. absurd (omega (arith, nesting-some c w s e lt)) }

-- all structs are nested at most as deep as the limit
pub Below-all : (c : Catalogue) (w : Width) (table : List (List Leaf))
    → StandBelow c w (deepest_nesting + 1) table → depth_fault c ≡ None → table ≡ map (leaves_of c w) (struct_numbers c)
Below-all c w table stands e =
    ext_get_or [] table (map (leaves_of c w) (struct_numbers c)) (stands.len ∙ sym (length-by (leaves_of c w) (length c.structs)))
    (λ s lt. (let inside : s < length c.structs = omega (arith, stands.len) in
    stands.stand s inside (omega (arith, nesting-limit c s e inside)) ∙ sym (get_or-by (leaves_of c w) (length c.structs) s [] inside)))
