-- The graph of inner structs against the definitions.
use Rattle.std.proofs.Common.{◌≡◌, ℕ, zero, suc, ◌+◌, ◌≤◌, ◌<◌, Bool, true, false, cond, eqb, List, [], ◌∷◌, ◌++◌, length, get_or, take, map, Option, Some, None, refl, sym, ◌∙◌, ap, arith, inl, inr}
use Rattle.std.specs.Prelude.{◌==◌, filter_map, if◌then◌else◌}
use Rattle.std.specs.List.{position_from, cons_option}
use Rattle.std.proofs.lemmas.Bool.{eqb-true, or_cases}
use Rattle.std.proofs.lemmas.List.{take_more, length-map, take_all, get_or_default}
use Rattle.std.proofs.Math.ListN.{get_or-map}
use Rattle.std.specs.declared.vec.Vec.{Vec}
use Rattle.std.specs.declared.alloc.Global.{Global}
use Rattle.bl_format.specs.Words.{contains, numbers_below, numbers_reached}
use Rattle.bl_format.specs.declared.catalogue.Catalogue.{Catalogue}
use Rattle.bl_format.specs.declared.catalogue.StructEntry.{StructEntry}
use Rattle.bl_format.specs.declared.catalogue.MemberEntry.{MemberEntry}
use Rattle.bl_format.specs.Layout.{Basic, basic_or_struct, basic_named, type_entry, struct_of_type, struct_entry, member_entry, member_count, name_of, content_of, struct_of_content, inner_struct, inner_structs, holds_struct, leads_back}
use Rattle.bl_format.proofs.NoneInItself.{contains-given}
use Rattle.bl_layout.specs.Sizes.{inner_of, parts_of}
use Rattle.bl_layout.specs.Graph.{AreInnerStructs, inner_among, links_of, leads, reaches, StaysInside}

-- the struct that a member is, by its entry
pub inner_struct-inner_of : (c : Catalogue) (s k : ℕ) → inner_struct c s k ≡ inner_of c (member_entry c s k)
unfolding inner_struct name_of
inner_struct-inner_of c s k = refl

cons_both : {B : Type 0} (o : Option B) (xs ys zs : List B) → xs ≡ ys ++ zs → cons_option o xs ≡ cons_option o ys ++ zs
cons_both None xs ys zs e = e
cons_both (Some b) xs ys zs e = ap (λ ws. b ∷ ws) e

filter_map-push : {A B : Type 0} (f : A → Option B) (xs : List A) (x : A) → filter_map f (xs ++ x ∷ []) ≡ filter_map f xs ++ cons_option (f x) []
filter_map-push f [] x = refl
filter_map-push f (y ∷ ys) x = cons_both (f y) (filter_map f (ys ++ x ∷ [])) (filter_map f ys) (cons_option (f x) []) (filter_map-push f ys x)

-- what is found of the numbers of some elements is what is found of the elements
filter_numbers : {A B : Type 0} (f : ℕ → Option B) (g : A → Option B) (xs : List A) (d : A) (n : ℕ) → n ≤ length xs
    → ((k : ℕ) → k < n → f k ≡ g (get_or xs k d)) → filter_map f (numbers_below n) ≡ filter_map g (take n xs)
filter_numbers f g xs d zero le same = refl
filter_numbers f g xs d (suc n) le same =
    let next : suc n ≡ n + 1 = omega arith in
    filter_map-push f (numbers_below n) n
    ∙ ap (λ zs. zs ++ cons_option (f n) []) (filter_numbers f g xs d n (omega arith) (λ k lt. same k (omega arith)))
    ∙ ap (λ o. filter_map g (take n xs) ++ cons_option o []) (same n (omega arith))
    ∙ sym (ap (λ (m : ℕ). filter_map g (take m xs)) next ∙ ap (filter_map g) (take_more xs n d (omega arith)) ∙ filter_map-push g (take n xs) (get_or xs n d))

pub inner_structs-among : (c : Catalogue) (s : ℕ) → inner_structs c s ≡ inner_among c (struct_entry c s).members
inner_structs-among c s =
    let ms = (struct_entry c s).members in
    filter_numbers (inner_struct c s) (inner_of c) ms (record { type_number = length c.types; name_number = length c.names }) (length ms) (omega arith) (λ k lt. inner_struct-inner_of c s k)
    ∙ ap (filter_map (inner_of c)) (take_all (length ms) ms (omega arith))

-- the links of a struct are its inner structs
pub links-inner : (c : Catalogue) (inner : List (Vec ℕ Global)) (x : ℕ) → AreInnerStructs c inner → get_or (links_of inner) x [] ≡ inner_structs c x
links-inner c inner x are =
    ap (λ (ls : List (List ℕ)). get_or ls x []) are
    ∙ get_or-map (λ s. inner_among c s.members) c.structs x (record { type_number = length c.types; members = [] })
    ∙ sym (inner_structs-among c x)

pub links-len : (c : Catalogue) (inner : List (Vec ℕ Global)) → AreInnerStructs c inner → length (links_of inner) ≡ length c.structs
links-len c inner are = ap length are ∙ same c.structs
  where
    same : (xs : List StructEntry) → length (map (λ s. inner_among c s.members) xs) ≡ length xs
    same xs = length-map xs (λ s. inner_among c s.members)

pub leads-holds : (c : Catalogue) (inner : List (Vec ℕ Global)) → AreInnerStructs c inner → leads (links_of inner) ≡ holds_struct c
leads-holds c inner are = λ i x y. ap (λ (ls : List ℕ). contains ls y) (links-inner c inner x are) i

-- a member leads back where a chain of links does
pub leads_back-reaches : (c : Catalogue) (inner : List (Vec ℕ Global)) (s t : ℕ) → AreInnerStructs c inner → leads_back c s (Some t) ≡ reaches (links_of inner) t s
leads_back-reaches c inner s t are =
    sym (ap (λ (f : ℕ → ℕ → Bool). contains (numbers_reached f (length (links_of inner)) (length (links_of inner)) (t ∷ [])) s) (leads-holds c inner are)
    ∙ ap (λ (n : ℕ). contains (numbers_reached (holds_struct c) n n (t ∷ [])) s) (links-len c inner are))

position_inside : {X : Type 0} (p : X → Bool) (i : ℕ) (xs : List X) (n : ℕ) → position_from p i xs ≡ Some n → n < i + length xs
position_inside p i [] n e = absurd cc
position_inside p i (x ∷ xs) n e = go (p x) (position_inside p (i + 1) xs n) e
  where
    go : (b : Bool) → (position_from p (i + 1) xs ≡ Some n → n < i + 1 + length xs) → cond b (Some i) (position_from p (i + 1) xs) ≡ Some n → n < i + length (x ∷ xs)
    go true rest e = let is : i ≡ n = cc in omega (arith, is)
    go false rest e = omega (arith, rest e)

-- a struct that a member is by value is one of the catalogue's
pub inner_inside : (c : Catalogue) (m : MemberEntry) (t : ℕ) → inner_of c m ≡ Some t → t < length c.structs
unfolding content_of
inner_inside c m t e = go (parts_of c m).pointer (basic_named (type_entry c m.type_number).name) (struct_of_type c m.type_number) refl e
  where
    go : (b : Bool) (o : Option Basic) (p : Option ℕ) → struct_of_type c m.type_number ≡ p → (if b then None else struct_of_content (basic_or_struct o p)) ≡ Some t → t < length c.structs
    go true o p is e = absurd cc
    go false (Some x) p is e = absurd cc
    go false None None is e = absurd cc
    go false None (Some n) is e =
        let same : n ≡ t = cc in
        let lt : n < 0 + length c.structs = position_inside (λ s. s.type_number == m.type_number) 0 c.structs n is in
        omega (arith, lt, same)

among_inside : (c : Catalogue) (ms : List MemberEntry) (t : ℕ) → contains (inner_among c ms) t ≡ true → t < length c.structs
among_inside c [] t e = absurd cc
among_inside c (m ∷ ms) t e = go (inner_of c m) refl (among_inside c ms t) e
  where
    go : (o : Option ℕ) → inner_of c m ≡ o → (contains (inner_among c ms) t ≡ true → t < length c.structs) → contains (cons_option o (inner_among c ms)) t ≡ true → t < length c.structs
    go None is rest e = rest e
    go (Some u) is rest e = elim (or_cases (eqb u t) (contains (inner_among c ms) t) e) [
      | inl same ↦ (let at : u ≡ t = eqb-true u t same in rw (← at) (inner_inside c m u is))
      | inr later ↦ rest later
    ]

-- links stay among the structs
pub links_inside : (c : Catalogue) (inner : List (Vec ℕ Global)) → AreInnerStructs c inner → StaysInside (links_of inner)
links_inside c inner are x y e =
    let in_it : contains (inner_among c (struct_entry c x).members) y ≡ true = ap (λ (ls : List ℕ). contains ls y) (sym (links-inner c inner x are ∙ inner_structs-among c x)) ∙ e in
    omega (arith, among_inside c (struct_entry c x).members y in_it, links-len c inner are)

-- whether a member of the struct as the code has it leads back
pub back_at : (c : Catalogue) (s k : ℕ) (members : List MemberEntry) (d : MemberEntry) (back : Bool)
    → members ≡ (struct_entry c s).members → k < length members → back ≡ leads_back c s (inner_of c (get_or members k d))
    → leads_back c s (inner_struct c s k) ≡ back
back_at c s k members d back same lt is =
    let far : MemberEntry = record { type_number = length c.types; name_number = length c.names } in
    let entry : get_or members k d ≡ member_entry c s k = get_or_default members k d far lt ∙ ap (λ (xs : List MemberEntry). get_or xs k far) same in
    ap (leads_back c s) (inner_struct-inner_of c s k) ∙ sym (is ∙ ap (λ (m : MemberEntry). leads_back c s (inner_of c m)) entry)

-- a struct that a member is by value is one of the links
pub inner_held : (c : Catalogue) (inner : List (Vec ℕ Global)) (s k t : ℕ) → AreInnerStructs c inner → k < member_count c s → inner_struct c s k ≡ Some t → leads (links_of inner) s t ≡ true
inner_held c inner s k t are lt e =
    ap (λ (ls : List ℕ). contains ls t) (links-inner c inner s are) ∙ contains-given (inner_struct c s) (member_count c s) k t lt e
