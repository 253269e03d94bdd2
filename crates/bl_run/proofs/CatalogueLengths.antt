-- A catalogue is written in as many bytes in both orders, and at both widths.
use Rattle.std.proofs.Common.{◌≡◌, ℕ, ◌+◌, List, [], ◌∷◌, ◌++◌, length, refl, sym, ap, ◌∙◌}
use Rattle.std.specs.Prelude.{flat_map, map, codes}
use Rattle.std.specs.List.{enumerate_from}
use Rattle.std.proofs.lemmas.List.{length-append}
use Rattle.bl_num.specs.declared.number.Order.{Order}
use Rattle.bl_num.specs.declared.number.Width.{Width}
use Rattle.bl_num.specs.Numbers.{bytes_of}
use Rattle.bl_num.proofs.BytesOf.{length-bytes_of}
use Rattle.bl_format.specs.declared.catalogue.Catalogue.{Catalogue}
use Rattle.bl_format.specs.declared.catalogue.MemberEntry.{MemberEntry}
use Rattle.bl_format.specs.declared.catalogue.StructEntry.{StructEntry}
use Rattle.bl_format.specs.declared.catalogue.TypeEntry.{TypeEntry}
use Rattle.bl_format.specs.Layout.{struct_of_type}
use Rattle.bl_format.specs.Rewidth.{rewidth, type_length}
use Rattle.bl_format.specs.Schema.{catalogue_written, lengths_part, member_written, name_written, names_part, struct_written, structs_part, types_part}
use Rattle.bl_format.proofs.CatalogueFits.{length-catalogue_written}
use Rattle.bl_format.proofs.RewidthKeeps.{rewidth-names, rewidth-structs, rewidth-type_count}

both : (a b c d : List ℕ) → length a ≡ length c → length b ≡ length d → length (a ++ b) ≡ length (c ++ d)
both a b c d front back = length-append a b ∙ (λ i. front i + back i) ∙ sym (length-append c d)

each : {X : Type 0} (f g : X → List ℕ) (xs : List X) → ((x : X) → length (f x) ≡ length (g x)) → length (flat_map f xs) ≡ length (flat_map g xs)
each f g [] same = refl
each f g (x ∷ xs) same = both (f x) (flat_map f xs) (g x) (flat_map g xs) (same x) (each f g xs same)

module _ (o p : Order) where
  number : (n v : ℕ) → length (bytes_of o n v) ≡ length (bytes_of p n v)
  number n v = length-bytes_of o n v ∙ sym (length-bytes_of p n v)

  member : (m : MemberEntry) → length (member_written o m) ≡ length (member_written p m)
  member m = both (bytes_of o 2 m.type_number) (bytes_of o 2 m.name_number) (bytes_of p 2 m.type_number) (bytes_of p 2 m.name_number) (number 2 m.type_number) (number 2 m.name_number)

  struct : (s : StructEntry) → length (struct_written o s) ≡ length (struct_written p s)
  struct s =
      both (bytes_of o 2 s.type_number ++ bytes_of o 2 (length s.members)) (flat_map (member_written o) s.members)
      (bytes_of p 2 s.type_number ++ bytes_of p 2 (length s.members)) (flat_map (member_written p) s.members)
      (both (bytes_of o 2 s.type_number) (bytes_of o 2 (length s.members)) (bytes_of p 2 s.type_number) (bytes_of p 2 (length s.members)) (number 2 s.type_number) (number 2 (length s.members)))
      (each (member_written o) (member_written p) s.members member)

  module _ (c : Catalogue) where
    counted : (tag : List ℕ) (n : ℕ) (f g : List ℕ) → length f ≡ length g → length (tag ++ bytes_of o 4 n ++ f) ≡ length (tag ++ bytes_of p 4 n ++ g)
    counted tag n f g same =
        both (tag ++ bytes_of o 4 n) f (tag ++ bytes_of p 4 n) g
        (both tag (bytes_of o 4 n) tag (bytes_of p 4 n) refl (number 4 n)) same

    names : length (names_part o c) ≡ length (names_part p c)
    names = counted (codes "SDNA" ++ codes "NAME") (length c.names) (flat_map name_written c.names) (flat_map name_written c.names) refl

    types : length (types_part o c) ≡ length (types_part p c)
    types = counted (codes "TYPE") (length c.types) (flat_map (λ t. name_written t.name) c.types) (flat_map (λ t. name_written t.name) c.types) refl

    lengths : length (lengths_part o c) ≡ length (lengths_part p c)
    lengths =
        both (codes "TLEN") (flat_map (λ (t : TypeEntry). bytes_of o 2 t.length) c.types) (codes "TLEN") (flat_map (λ (t : TypeEntry). bytes_of p 2 t.length) c.types) refl
        (each (λ (t : TypeEntry). bytes_of o 2 t.length) (λ (t : TypeEntry). bytes_of p 2 t.length) c.types (λ t. number 2 t.length))

    structs : length (structs_part o c) ≡ length (structs_part p c)
    structs = counted (codes "STRC") (length c.structs) (flat_map (struct_written o) c.structs) (flat_map (struct_written p) c.structs) (each (struct_written o) (struct_written p) c.structs struct)

    pub length-any_order : length (catalogue_written o c) ≡ length (catalogue_written p c)
    length-any_order = length-catalogue_written o c ∙ rw (names, types, lengths, structs) refl ∙ sym (length-catalogue_written p c)

-- ---- widths

-- what is written of numbered elements that are changed, where each is as long
each_changed : {X : Type 0} (f : X → List ℕ) (change : ℕ × X → X) (i : ℕ) (xs : List X) → ((j : ℕ) (x : X) → length (f (change (j, x))) ≡ length (f x))
    → length (flat_map f (map change (enumerate_from i xs))) ≡ length (flat_map f xs)
each_changed f change i [] same = refl
each_changed f change i (x ∷ xs) same =
    both (f (change (i, x))) (flat_map f (map change (enumerate_from (i + 1) xs))) (f x) (flat_map f xs) (same i x) (each_changed f change (i + 1) xs same)

module _ (o : Order) (c : Catalogue) (from to : Width) where
  abbrev new_type : ℕ × TypeEntry → TypeEntry
  new_type p = record p.1 { length = type_length c from to (struct_of_type c p.0) p.1.length }

  new_types : length (types_part o (rewidth c from to)) ≡ length (types_part o c)
  unfolding rewidth
  new_types =
      let d : Catalogue = rewidth c from to in
      both (codes "TYPE" ++ bytes_of o 4 (length d.types)) (flat_map (λ t. name_written t.name) d.types)
      (codes "TYPE" ++ bytes_of o 4 (length c.types)) (flat_map (λ t. name_written t.name) c.types)
      (ap (λ (n : ℕ). length (codes "TYPE" ++ bytes_of o 4 n)) (rewidth-type_count c from to))
      (each_changed (λ (t : TypeEntry). name_written t.name) new_type 0 c.types (λ j x. refl))

  new_lengths : length (lengths_part o (rewidth c from to)) ≡ length (lengths_part o c)
  unfolding rewidth
  new_lengths =
      both (codes "TLEN") (flat_map (λ (t : TypeEntry). bytes_of o 2 t.length) (map new_type (enumerate_from 0 c.types)))
      (codes "TLEN") (flat_map (λ (t : TypeEntry). bytes_of o 2 t.length) c.types) refl
      (each_changed (λ (t : TypeEntry). bytes_of o 2 t.length) new_type 0 c.types
      (λ j x. length-bytes_of o 2 (new_type (j, x)).length ∙ sym (length-bytes_of o 2 x.length)))

  -- a catalogue at another width is written in as many bytes
  pub length-rewidth : length (catalogue_written o (rewidth c from to)) ≡ length (catalogue_written o c)
  length-rewidth =
      let names : length (names_part o (rewidth c from to)) ≡ length (names_part o c) = rw (rewidth-names c from to) refl in
      let structs : length (structs_part o (rewidth c from to)) ≡ length (structs_part o c) = rw (rewidth-structs c from to) refl in
      length-catalogue_written o (rewidth c from to) ∙ rw (names, new_types, new_lengths, structs) refl ∙ sym (length-catalogue_written o c)
