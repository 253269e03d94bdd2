-- The kinds of a draft of one file's nodes, by the heads of these nodes, are those of the draft's entries.
use Rattle.std.proofs.Common.{◌≡◌, ℕ, ◌+◌, All, List, [], ◌∷◌, refl, sym, ap}
use Rattle.std.specs.Prelude.{map}
use Rattle.std.specs.List.{enumerate_from}
use Rattle.std.proofs.lemmas.List.Elements.{All-head, All-tail}
use Rattle.bl_format.specs.declared.file.Head.{Head}
use Rattle.bl_format.specs.declared.raw.View.{View}
use Rattle.bl_format.specs.Nodes.{File}
use Rattle.bl_selection.specs.declared.draft.Draft.{Draft}
use Rattle.bl_selection.specs.declared.draft.Entry.{Entry}
use Rattle.bl_selection.specs.declared.draft.Entry.TheVariants as entries
use Rattle.bl_selection.specs.EntryKinds.{entry_kind, draft_kinds}
use Rattle.bl_selection.specs.Selection.{selection_views}
use Rattle.bl_file.specs.Seen.{kind_seen, kinds_seen}
use Rattle.bl_draft.specs.Own.{IsOfSource, entry_head, entry_heads, entry_kinds}

module _ (f : File) (views : List View) where
  kind_agrees : (e : ℕ) (x : Entry) → IsOfSource x → kind_seen views e (entry_head f.nodes x) ≡ entry_kind (f ∷ []) views e x
  kind_agrees e (entries.Source i n) is = ap (λ (k : ℕ). entry_kind (f ∷ []) views e (entries.Source k n)) (sym is)
  kind_agrees e (entries.Made m) is = absurd is
  kind_agrees e (entries.Raw code bytes) is = absurd is

  kinds_agree : (e : ℕ) (xs : List Entry) → All IsOfSource xs
      → map (λ (p : ℕ × Head). kind_seen views p.0 p.1) (enumerate_from e (entry_heads f.nodes xs)) ≡ map (λ (p : ℕ × Entry). entry_kind (f ∷ []) views p.0 p.1) (enumerate_from e xs)
  kinds_agree e [] all = refl
  kinds_agree e (x ∷ xs) all =
      let first = kind_agrees e x (All-head IsOfSource x xs all) in
      let later = kinds_agree (e + 1) xs (All-tail IsOfSource x xs all) in
      λ i. first i ∷ later i

-- where a draft has nodes of one file alone, both words on the kinds of its entries say the same
pub entry_kinds-draft : (f : File) (d : Draft) → All IsOfSource d.entries → entry_kinds f d ≡ draft_kinds (f ∷ []) d
unfolding kinds_seen draft_kinds
entry_kinds-draft f d sources = kinds_agree f (selection_views (f ∷ []) d) 0 d.entries sources
