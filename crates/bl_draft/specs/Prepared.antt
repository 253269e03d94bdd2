-- What is known of a draft of an opened file before anything is read: what it is of, its structs and its heads; and whether
-- the same nodes are IDs in it. This project's own.
use Rattle.std.specs.Prelude.{◌≡◌, map}
use Rattle.bl_selection.specs.declared.draft.Draft.{Draft}
use Rattle.bl_shelf.specs.declared.shelf.Shelf.{Ghosts as ShelfGhosts}
use Rattle.bl_file.specs.declared.outline.Outline.{Outline}
use Rattle.bl_file.specs.declared.payload.Payload.{Ghosts}
use Rattle.bl_file.specs.Outlines.{ids_of}
use Rattle.bl_draft.specs.declared.prepared.Prepared.{Prepared}
use Rattle.bl_draft.specs.Numbers.{numbered_head, numbers_under}
use Rattle.bl_draft.specs.Own.{entry_heads}
use Rattle.bl_draft.specs.Sources.{IsSource}
use Rattle.bl_draft.specs.Structs.{AreStructsOf}

-- a draft is one of an opened file, and its structs and heads are known
pub record IsPrepared {S P : Type 0} (g : ShelfGhosts S) (h : Ghosts P) (s : S) (p : P) (x : Prepared) : Type 0 where
  pub source : IsSource g h s x.draft.now x.outline.now p
  pub structs : AreStructsOf x.outline.now x.draft.now x.structs.now
  pub heads : x.heads.now ≡ entry_heads x.outline.now.nodes x.draft.now.entries

-- the nodes of a file that are IDs under a draft's catalogue are those that are IDs in the file
abbrev pub HasFileIds : Outline → Draft → Type 0
HasFileIds o d = ids_of d.catalogue (map (numbered_head (numbers_under d.catalogue o.layout.catalogue)) o.nodes) ≡ o.ids
