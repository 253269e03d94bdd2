-- Drafts of one file's nodes under any header and catalogue: what is asked of one, which nodes its entries are, what
-- addresses name from them, and the kinds that they have.
use Rattle.std.specs.Prelude.{◌≡◌, ◌≤◌, ◌<◌, ◌^◌, ℕ, true, All, List, [], ◌∷◌, length, map, get_or}
use Rattle.bl_format.specs.declared.file.Head.{Head}
use Rattle.bl_format.specs.declared.raw.RawKind.{RawKind}
use Rattle.bl_format.specs.Limits.{first_version, last_version}
use Rattle.bl_format.specs.Layout.{HasLayout}
use Rattle.bl_format.specs.Schema.{catalogue_written}
use Rattle.bl_format.specs.Nodes.{File}
use Rattle.bl_format.specs.Graph.{Target, Naming}
use Rattle.bl_selection.specs.declared.draft.Draft.{Draft}
use Rattle.bl_selection.specs.declared.draft.Entry.{Entry}
use Rattle.bl_selection.specs.declared.draft.Entry.TheVariants as entries
use Rattle.bl_selection.specs.Selection.{no_head, entry_at, entry_names, selection_views}
use Rattle.bl_selection.specs.Drafts.{is_well_formed}
use Rattle.bl_file.specs.declared.outline.Outline.{Outline}
use Rattle.bl_file.specs.Outlines.{file_with}
use Rattle.bl_file.specs.Seen.{kinds_seen}

-- the file that an outline tells of, with these bytes
abbrev pub outlined : Outline → List ℕ → File
outlined o b = file_with o.header o.layout.catalogue o.nodes b

-- an entry is a node of the only source
abbrev pub IsOfSource : Entry → Type 0
IsOfSource (entries.Source i n) = i ≡ 0
IsOfSource (entries.Made m) = ⊥
IsOfSource (entries.Raw code bytes) = ⊥

-- a draft is well-formed, of nodes of one file alone, under a header and a catalogue that can be written
pub record IsSourceDraft (o : Outline) (d : Draft) : Type 0 where
  pub version : (first_version ≤ d.header.version) × (d.header.version ≤ last_version)
  pub has_layout : HasLayout d.catalogue d.header.width
  pub short : length (catalogue_written d.header.order d.catalogue) < 2 ^ 31
  pub no_overrides : d.overrides ≡ []
  pub sources : All IsOfSource d.entries
  pub well_formed : is_well_formed (outlined o [] ∷ []) d ≡ true

-- the number of the node that an entry is
abbrev pub entry_node : Entry → ℕ
entry_node (entries.Source i n) = n
entry_node (entries.Made m) = 0
entry_node (entries.Raw code bytes) = 0

-- the head of the node that an entry is
abbrev pub entry_head : List Head → Entry → Head
entry_head nodes (entries.Source i n) = get_or nodes n no_head
entry_head nodes (entries.Made m) = no_head
entry_head nodes (entries.Raw code bytes) = no_head

-- the heads of all entries
abbrev pub entry_heads : List Head → List Entry → List Head
entry_heads nodes es = map (entry_head nodes) es

-- what addresses name from entry e, which is a node of the file
abbrev pub own_names : File → Draft → ℕ → Naming Target
own_names f d e = entry_names (f ∷ []) d e 0 (entry_node (entry_at d e))

-- the kinds of all entries by what all pointers of the draft say; a struct counts as bytes
abbrev pub entry_kinds : File → Draft → List RawKind
entry_kinds f d = kinds_seen (entry_heads f.nodes d.entries) (selection_views (f ∷ []) d)
