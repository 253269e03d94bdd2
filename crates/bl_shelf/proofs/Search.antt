-- The search for a name goes file by file.
use Rattle.std.proofs.Common.{◌≡◌, length, ℕ, ◌+◌, ◌<◌, List, map, drop, get_or, cond, eqb, refl, add-one, Some, drop-cons}
use Rattle.std.specs.Ordering.{nat_cmp}
use Rattle.std.specs.Cmp.Lexicographic.{slice_cmp, pointwise, texts_ties}
use Rattle.std.specs.FinMap.{find}
use Rattle.bl_shelf.specs.declared.named_bytes.NamedBytes.{NamedBytes}
use Rattle.bl_shelf.specs.NamedBytes.{entry_of}

pub find_from : (files : List NamedBytes) (i : ℕ) (f : NamedBytes) (name : List ℕ) → i < length files → f ≡ get_or files i f →
    find (slice_cmp nat_cmp) name (map entry_of (drop i files))
    ≡ cond (pointwise eqb name f.name.items) (Some f.bytes.items) (find (slice_cmp nat_cmp) name (map entry_of (drop (i + 1) files)))
find_from files i f name below is =
    rw (drop-cons files i f, ← is, add-one, texts_ties name f.name.items) refl
