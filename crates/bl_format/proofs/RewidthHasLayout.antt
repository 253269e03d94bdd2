-- Where no struct's new length is too long, a catalogue with a layout at one width has, brought to another width, a
-- layout there: some payload reads as it, and it has no fault.
use Rattle.std.proofs.Common.{◌≡◌, ℕ, ◌+◌, ◌*◌, List, [], ◌∷◌, length, None, refl, sym, ap, subst, ◌∙◌, arith, length-append}
use Rattle.std.specs.Prelude.{codes, flat_map, map}
use Rattle.std.specs.List.{enumerate_from}
use Rattle.bl_num.specs.declared.number.Order.{Order}
use Rattle.bl_num.specs.declared.number.Width.{Width}
use Rattle.bl_num.specs.Numbers.{bytes_of}
use Rattle.bl_num.proofs.BytesOf.{length-bytes_of}
use Rattle.bl_format.specs.declared.catalogue.Catalogue.{Catalogue}
use Rattle.bl_format.specs.declared.catalogue.TypeEntry.{TypeEntry}
use Rattle.bl_format.specs.Schema.{name_written, names_part, types_part, lengths_part, structs_part, catalogue_written, IsCatalogue, CanBeRead}
use Rattle.bl_format.specs.Layout.{struct_of_type, HasLayout}
use Rattle.bl_format.specs.Rewidth.{type_length, rewidth, rewidth_fault}
use Rattle.bl_format.proofs.CatalogueBack.{catalogue_of-catalogue_written}
use Rattle.bl_format.proofs.CatalogueRead.{IsCatalogue-catalogue_of}
use Rattle.bl_format.proofs.CatalogueFits.{AreBytes, PartsFit, length-catalogue_written, catalogue_of-PartsFit, catalogue_written-AreBytes}
use Rattle.bl_format.proofs.RewidthKeeps.{rewidth-structs, rewidth-names, rewidth-type_count}
use Rattle.bl_format.proofs.RewidthCatalogue.{rewidth-IsCatalogue}
use Rattle.bl_format.proofs.RewidthLayout.{rewidth-layout_fault}

flat_map-map-enumerate_from : {X Y Z : Type 0} (f : Y → List Z) (g : X → List Z) (change : ℕ × X → Y) (i : ℕ) (xs : List X)
    → ((j : ℕ) (x : X) → f (change (j, x)) ≡ g x) → flat_map f (map change (enumerate_from i xs)) ≡ flat_map g xs
flat_map-map-enumerate_from f g change i [] same = refl
flat_map-map-enumerate_from f g change i (x ∷ xs) same = rw (same i x, flat_map-map-enumerate_from f g change (i + 1) xs same) refl

names_stay : (order : Order) (c : Catalogue) (from to : Width) → names_part order (rewidth c from to) ≡ names_part order c
names_stay order c from to = rw (rewidth-names c from to) refl

type_names_stay : (c : Catalogue) (from to : Width)
    → flat_map (λ (t : TypeEntry). name_written t.name) (rewidth c from to).types ≡ flat_map (λ (t : TypeEntry). name_written t.name) c.types
unfolding rewidth
type_names_stay c from to =
    flat_map-map-enumerate_from (λ (t : TypeEntry). name_written t.name) (λ (t : TypeEntry). name_written t.name)
    (λ (p : ℕ × TypeEntry). record p.1 { length = type_length c from to (struct_of_type c p.0) p.1.length }) 0 c.types (λ j x. refl)

types_stay : (order : Order) (c : Catalogue) (from to : Width) → types_part order (rewidth c from to) ≡ types_part order c
types_stay order c from to = rw (rewidth-type_count c from to, type_names_stay c from to) refl

structs_stay : (order : Order) (c : Catalogue) (from to : Width) → structs_part order (rewidth c from to) ≡ structs_part order c
structs_stay order c from to = rw (rewidth-structs c from to) refl

length-numbers : (order : Order) (ts : List TypeEntry) → length (flat_map (λ (t : TypeEntry). bytes_of order 2 t.length) ts) ≡ 2 * length ts
length-numbers order [] = refl
length-numbers order (t ∷ ts) =
    length-append (bytes_of order 2 t.length) (flat_map (λ (u : TypeEntry). bytes_of order 2 u.length) ts) ∙ omega (arith, length-bytes_of order 2 t.length, length-numbers order ts)

length-lengths_part : (order : Order) (c : Catalogue) → length (lengths_part order c) ≡ 4 + 2 * length c.types
length-lengths_part order c =
    length-append (codes "TLEN") (flat_map (λ (t : TypeEntry). bytes_of order 2 t.length) c.types) ∙ ap (λ (n : ℕ). 4 + n) (length-numbers order c.types)

-- the payload is as long as before
length-written_stays : (order : Order) (c : Catalogue) (from to : Width) → length (catalogue_written order (rewidth c from to)) ≡ length (catalogue_written order c)
length-written_stays order c from to =
    let names : length (names_part order (rewidth c from to)) ≡ length (names_part order c) = ap length (names_stay order c from to) in
    let types : length (types_part order (rewidth c from to)) ≡ length (types_part order c) = ap length (types_stay order c from to) in
    let structs : length (structs_part order (rewidth c from to)) ≡ length (structs_part order c) = ap length (structs_stay order c from to) in
    let lengths : length (lengths_part order (rewidth c from to)) ≡ length (lengths_part order c) = length-lengths_part order (rewidth c from to) ∙ ap (λ (n : ℕ). 4 + 2 * n) (rewidth-type_count c from to) ∙ sym (length-lengths_part order c) in
    length-catalogue_written order (rewidth c from to) ∙ rw (names, types, lengths, structs) refl ∙ sym (length-catalogue_written order c)

rewidth-PartsFit : (order : Order) (c : Catalogue) (from to : Width) (most : ℕ) → PartsFit order c most → PartsFit order (rewidth c from to) most
rewidth-PartsFit order c from to most h = record {
  names = subst (λ (text : List ℕ). AreBytes text) (sym (names_stay order c from to)) h.names;
  types = subst (λ (text : List ℕ). AreBytes text) (sym (types_stay order c from to)) h.types;
  structs = subst (λ (text : List ℕ). AreBytes text) (sym (structs_stay order c from to)) h.structs;
  short = rw (length-written_stays order c from to) h.short;
}

-- some payload reads as the catalogue at the other width
pub rewidth-CanBeRead : (c : Catalogue) (from to : Width) → CanBeRead c → rewidth_fault c from to ≡ None → CanBeRead (rewidth c from to)
rewidth-CanBeRead c from to h e =
    let is : IsCatalogue c = IsCatalogue-catalogue_of h.order h.payload c h.bytes h.reads in
    let parts : PartsFit h.order (rewidth c from to) (length h.payload) = rewidth-PartsFit h.order c from to (length h.payload) (catalogue_of-PartsFit h.order h.payload c h.bytes h.reads) in
    record {
      order = h.order;
      payload = catalogue_written h.order (rewidth c from to);
      bytes = catalogue_written-AreBytes h.order (rewidth c from to) (length h.payload) parts;
      short = omega (arith, parts.short, h.short);
      reads = catalogue_of-catalogue_written h.order (rewidth c from to) (rewidth-IsCatalogue c from to is e);
    }

-- a catalogue with a layout has one at another width too, unless a struct is too long there
pub rewidth-HasLayout : (c : Catalogue) (from to : Width) → HasLayout c from → rewidth_fault c from to ≡ None → HasLayout (rewidth c from to) to
rewidth-HasLayout c from to h e = record {
  can_be_read = rewidth-CanBeRead c from to h.can_be_read e;
  no_fault = rewidth-layout_fault c from to (IsCatalogue-catalogue_of h.can_be_read.order h.can_be_read.payload c h.can_be_read.bytes h.can_be_read.reads) h.no_fault;
}
