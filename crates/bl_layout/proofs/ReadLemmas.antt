-- What a catalogue that can be read is: a catalogue by the grammar, with names that are shorter than its payload.
use Rattle.std.proofs.Common.{ℕ, zero, suc, ◌≤◌, ◌<◌, ◌^◌, List, [], ◌∷◌, ◌++◌, length, get_or, ap, arith, length-append}
use Rattle.std.specs.Prelude.{All, flat_map, codes}
use Rattle.bl_num.specs.Numbers.{bytes_of}
use Rattle.bl_format.specs.declared.catalogue.Catalogue.{Catalogue}
use Rattle.bl_format.specs.Schema.{CanBeRead, IsPayload, name_written, names_part, types_part, lengths_part, structs_part}
use Rattle.bl_format.proofs.CatalogueSpelled.{IsPayload-catalogue_of}

-- a name is shorter than all names as they are written
name_shorter : (names : List (List ℕ)) (k : ℕ) (d : List ℕ) → k < length names → length (get_or names k d) < length (flat_map name_written names)
name_shorter [] k d lt = absurd (omega arith)
name_shorter (x ∷ xs) zero d lt = omega (arith, length-append (name_written x) (flat_map name_written xs), length-append x (0 ∷ []))
name_shorter (x ∷ xs) (suc k) d lt = omega (arith, length-append (name_written x) (flat_map name_written xs), name_shorter xs k d (omega arith))

-- the last part of a text is no longer than the text
no_longer : (front text : List ℕ) → length text ≤ length (front ++ text)
no_longer front text = omega (arith, length-append front text)

-- the first part of a text is no longer than the text
first_no_longer : (n a t b l d s r : List ℕ) → length n ≤ length (n ++ a ++ t ++ b ++ l ++ d ++ s ++ r)
first_no_longer n a t b l d s r =
    omega (
      arith,
      length-append n a,
      length-append (n ++ a) t,
      length-append (n ++ a ++ t) b,
      length-append (n ++ a ++ t ++ b) l,
      length-append (n ++ a ++ t ++ b ++ l) d,
      length-append (n ++ a ++ t ++ b ++ l ++ d) s,
      length-append (n ++ a ++ t ++ b ++ l ++ d ++ s) r,
    )

-- the names of a catalogue that can be read are short
pub can_be_read-short_names : (c : Catalogue) → CanBeRead c → All (λ n. length n < 2 ^ 32) c.names
can_be_read-short_names c read k d lt =
    let p : IsPayload read.order c read.payload = IsPayload-catalogue_of read.order read.payload c read.bytes read.reads in
    let one = name_shorter c.names k d lt in
    let names = no_longer (codes "SDNA" ++ codes "NAME" ++ bytes_of read.order 4 (length c.names)) (flat_map name_written c.names) in
    let part = first_no_longer (names_part read.order c) p.before_types (types_part read.order c) p.before_lengths (lengths_part read.order c) p.before_structs (structs_part read.order c) p.rest in
    omega (arith, one, names, part, ap length p.text, read.short)
