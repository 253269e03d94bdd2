-- Numbers by names, as they are gathered from a list: of a name the first place counts.
use denote.Ref.{Bor}
use Rattle.std.proofs.Common.{◌≡◌, ◌<◌, ◌≤◌, ℕ, suc, ◌+◌, Bool, true, false, cond, List, [], ◌∷◌, length, get_or, drop, Option, Some, None, refl, sym, ap, ◌∙◌, arith, drop-cons}
use Rattle.std.specs.Prelude.{is_some}
use Rattle.std.specs.BTreeMap.{BTreeMap, IsEmpty, get_by}
use Rattle.std.specs.Cmp.Lexicographic.{slice_cmp}
use Rattle.std.specs.Ordering.{nat_cmp}
use Rattle.std.specs.declared.cmp.Ordering.{Ordering}
use Rattle.std.specs.List.{position_from}
use Rattle.std.specs.Option.{option_or}
use Rattle.std.specs.Str.{bytes_eq}
use Rattle.std.proofs.lemmas.List.{drop_all}
use Rattle.std.proofs.lemmas.Slice.Eq.{bytes_eq-Decides}
use Rattle.bl_format.specs.declared.catalogue.Catalogue.{Catalogue}
use Rattle.bl_format.specs.declared.catalogue.StructEntry.{StructEntry}
use Rattle.bl_format.specs.Schema.{CanBeRead, IsCatalogue}
use Rattle.bl_format.specs.Words.{first_place, numbers_below}
use Rattle.bl_format.specs.Layout.{member_count, name_of, struct_name, struct_named, type_entry}
use Rattle.bl_format.proofs.CatalogueRead.{IsCatalogue-catalogue_of}
use Rattle.bl_format.proofs.NumbersBelow.{length-numbers_below, get_or-numbers_below}
use Rattle.bl_plan.specs.Names.{number_for, HasStructs, HasMembers, Learns}

-- the map of names
abbrev pub Known : Type 0
Known = BTreeMap (Bor (List ℕ)) ℕ

or_none : {X : Type 0} (o : Option X) → option_or o None ≡ o
or_none None = refl
or_none (Some x) = refl

or_more : {X : Type 0} (o : Option X) (b : Bool) (x : X) (rest : Option X)
    → option_or (option_or o (cond b (Some x) None)) rest ≡ option_or o (cond b (Some x) rest)
or_more None true x rest = refl
or_more None false x rest = refl
or_more (Some y) b x rest = refl

get_by_empty : {K X : Type 0} (p : K → Ordering) (m : BTreeMap K X) → IsEmpty m → get_by p m ≡ None
get_by_empty p m e = rw e refl

-- ---- names of the elements of a list

-- what is known and what the elements from place i on have is what all elements have
abbrev pub HasNamesBelow : {X : Type 0} → (X → List ℕ) → List X → ℕ → Known → Type 0
HasNamesBelow name_in xs i known =
    (name : List ℕ) → option_or (number_for known name) (position_from (λ x. bytes_eq (name_in x) name) i (drop i xs))
    ≡ first_place (λ x. bytes_eq (name_in x) name) xs

module _ {X : Type 0} (name_in : X → List ℕ) (xs : List X) where
  -- at the start nothing is known
  no_names : (known : Known) → IsEmpty known → HasNamesBelow name_in xs 0 known
  no_names known empty name =
      ap (λ o. option_or o (position_from (λ x. bytes_eq (name_in x) name) 0 xs))
      (get_by_empty (λ (k : Bor (List ℕ)). slice_cmp nat_cmp name k.now) known empty)

  -- one element more
  one_name : (old new : Known) (own : List ℕ) (i : ℕ) (d : X) → i < length xs → own ≡ name_in (get_or xs i d) → Learns old new own i
      → HasNamesBelow name_in xs i old → HasNamesBelow name_in xs (i + 1) new
  one_name old new own i d lt is learns so_far name =
      let rest = position_from (λ x. bytes_eq (name_in x) name) (i + 1) (drop (i + 1) xs) in
      let next : suc i ≡ i + 1 = omega arith in
      let split : drop i xs ≡ get_or xs i d ∷ drop (i + 1) xs =
      drop-cons xs i d lt ∙ ap (λ n. get_or xs i d ∷ drop n xs) next in
      ap (λ o. option_or o rest) (learns name)
      ∙ ap (λ (x : List ℕ). option_or (option_or (number_for old name) (cond (bytes_eq x name) (Some i) None)) rest) is
      ∙ or_more (number_for old name) (bytes_eq (name_in (get_or xs i d)) name) i rest
      ∙ ap (λ ys. option_or (number_for old name) (position_from (λ x. bytes_eq (name_in x) name) i ys)) (sym split) ∙ so_far name

  -- after all elements
  all_names : (known : Known) (i : ℕ) → length xs ≤ i → HasNamesBelow name_in xs i known
      → (name : List ℕ) → number_for known name ≡ first_place (λ x. bytes_eq (name_in x) name) xs
  all_names known i le so_far name =
      sym (or_none (number_for known name))
      ∙ ap (λ ys. option_or (number_for known name) (position_from (λ x. bytes_eq (name_in x) name) i ys)) (sym (drop_all i xs le))
      ∙ so_far name

-- ---- the structs of a catalogue

-- what is known and what the structs from place i on have is what all structs have
abbrev pub HasStructsBelow : Catalogue → ℕ → Known → Type 0
HasStructsBelow c i known = HasNamesBelow (λ (s : StructEntry). (type_entry c s.type_number).name) c.structs i known

module _ (c : Catalogue) where
  pub none_known : (known : Known) → IsEmpty known → HasStructsBelow c 0 known
  none_known known empty = no_names (λ (s : StructEntry). (type_entry c s.type_number).name) c.structs known empty

  pub one_known : (old new : Known) (own : List ℕ) (i : ℕ) → i < length c.structs → own ≡ struct_name c i → Learns old new own i
      → HasStructsBelow c i old → HasStructsBelow c (i + 1) new
  one_known old new own i lt is learns so_far =
      one_name (λ (s : StructEntry). (type_entry c s.type_number).name) c.structs old new own i (record { type_number = length c.types; members = [] }) lt is learns so_far

  pub all_known : (known : Known) (i : ℕ) → length c.structs ≤ i → HasStructsBelow c i known → HasStructs c known
  unfolding struct_named
  all_known known i le so_far = all_names (λ (s : StructEntry). (type_entry c s.type_number).name) c.structs known i le so_far

-- ---- the members of a struct

-- what is known and what the members from member i on have is what all members have
abbrev pub HasMembersBelow : Catalogue → ℕ → ℕ → Known → Type 0
HasMembersBelow c s i known = HasNamesBelow (λ j. (name_of c s j).key) (numbers_below (member_count c s)) i known

module _ (c : Catalogue) (s : ℕ) where
  pub no_member_known : (known : Known) → IsEmpty known → HasMembersBelow c s 0 known
  no_member_known known empty = no_names (λ j. (name_of c s j).key) (numbers_below (member_count c s)) known empty

  pub one_member_known : (old new : Known) (own : List ℕ) (i : ℕ) → i < member_count c s → own ≡ (name_of c s i).key → Learns old new own i
      → HasMembersBelow c s i old → HasMembersBelow c s (i + 1) new
  one_member_known old new own i lt is learns so_far =
      let here = get_or-numbers_below (member_count c s) i 0 lt in
      one_name (λ j. (name_of c s j).key) (numbers_below (member_count c s)) old new own i 0 (omega (arith, lt, length-numbers_below (member_count c s)))
      (is ∙ ap (λ j. (name_of c s j).key) (sym here)) learns so_far

  pub all_members_known : (known : Known) (i : ℕ) → member_count c s ≤ i → HasMembersBelow c s i known → HasMembers c s known
  all_members_known known i le so_far =
      all_names (λ j. (name_of c s j).key) (numbers_below (member_count c s)) known i (omega (arith, le, length-numbers_below (member_count c s))) so_far

-- ---- a name more

absent : (o : Option ℕ) → is_some o ≡ false → o ≡ None
absent None no_one = refl
absent (Some x) no_one = absurd (cc)

first_stays : (o p : Option ℕ) → is_some o ≡ true → o ≡ option_or o p
first_stays None p some = absurd (cc)
first_stays (Some x) p some = refl

-- a new name is learnt
pub learns_new : (old new : Known) (own : List ℕ) (number : ℕ) → is_some (number_for old own) ≡ false
    → ((name : List ℕ) → number_for new name ≡ cond (bytes_eq own name) (Some number) (number_for old name))
    → Learns old new own number
learns_new old new own number none updates name = updates name ∙ by (bytes_eq own name) refl
  where
    by : (b : Bool) → bytes_eq own name ≡ b
        → cond b (Some number) (number_for old name) ≡ option_or (number_for old name) (cond b (Some number) None)
    by true e =
        let here : number_for old name ≡ None =
        ap (number_for old) (sym ((bytes_eq-Decides own name).0 e)) ∙ absent (number_for old own) none in
        ap (λ o. option_or o (Some number)) (sym here)
    by false e = sym (or_none (number_for old name))

-- a known name is nothing new
pub learns_nothing : (known : Known) (own : List ℕ) (number : ℕ) → is_some (number_for known own) ≡ true
    → Learns known known own number
learns_nothing known own number some name = by (bytes_eq own name) refl
  where
    by : (b : Bool) → bytes_eq own name ≡ b
        → number_for known name ≡ option_or (number_for known name) (cond b (Some number) None)
    by true e =
        let here : is_some (number_for known name) ≡ true =
        ap (λ x. is_some (number_for known x)) (sym ((bytes_eq-Decides own name).0 e)) ∙ some in
        first_stays (number_for known name) (Some number) here
    by false e = sym (or_none (number_for known name))

-- ---- structs of a catalogue that can be read

-- it is one by the grammar, so its counts fit
pub is_catalogue : (c : Catalogue) → CanBeRead c → IsCatalogue c
is_catalogue c r = IsCatalogue-catalogue_of r.order r.payload c r.bytes r.reads
