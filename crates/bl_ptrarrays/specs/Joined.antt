-- The kinds that views agree on, view by view. This project's own.
use Rattle.std.specs.Prelude.{if◌then◌else◌, List, [], ◌∷◌, get_or, set, Option, Some, None}
use Rattle.bl_format.specs.declared.raw.RawKind.{RawKind}
use Rattle.bl_format.specs.declared.raw.RawKind.TheVariants.{Bytes}
use Rattle.bl_format.specs.declared.raw.View.{View}
use Rattle.bl_format.specs.Nodes.{kind_eq}

-- the kind that two agree on, and else bytes
abbrev pub joined_kind : RawKind → RawKind → RawKind
joined_kind first second = if kind_eq first second then first else Bytes

-- the kind that a view and those before it agree on, and else bytes
abbrev pub joined : Option RawKind → RawKind → RawKind
joined None kind = kind
joined (Some first) kind = joined_kind first kind

-- the kinds of all nodes, where each view is joined with those before it
unfoldable pub joined_views : List View → List (Option RawKind) → List (Option RawKind)
joined_views [] kinds = kinds
joined_views (v ∷ vs) kinds = joined_views vs (set kinds v.node (Some (joined (get_or kinds v.node None) v.kind)))
