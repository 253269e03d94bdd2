-- The views and the kinds of nodes, where what addresses name from each node is given.
use Rattle.std.specs.Prelude.{◌≡◌, refl, ℕ, ◌==◌, if◌then◌else◌, List, [], map, flat_map, slice_get, Option, Some, None}
use Rattle.std.specs.List.{enumerate_from}
use Rattle.bl_format.specs.declared.file.Header.{Header}
use Rattle.bl_format.specs.declared.file.Head.{Head}
use Rattle.bl_format.specs.declared.catalogue.Catalogue.{Catalogue}
use Rattle.bl_format.specs.declared.raw.RawKind.{RawKind}
use Rattle.bl_format.specs.declared.raw.RawKind.TheVariants.{Bytes}
use Rattle.bl_format.specs.declared.raw.View.{View}
use Rattle.bl_format.specs.Layout.{struct_length}
use Rattle.bl_format.specs.Nodes.{Mark, payload, raw_kind, target_of}
use Rattle.bl_format.specs.Graph.{Target, Naming, Cell, elements, struct_cells, views_of}

-- what addresses name from each of some nodes
abbrev pub Namings : Type 0
Namings = ℕ → Naming Target

-- the group of a mark, and 0 where there is none
abbrev pub mark_group : Option Mark → ℕ
mark_group None = 0
mark_group (Some m) = m.group

-- what addresses name from nodes by what they are compared with in each: that in the group of the node
abbrev pub table_names : List Mark → Namings
table_names marks k = target_of marks (mark_group (slice_get marks k))

-- the address 0 names nothing
pub table_names-null : (marks : List Mark) (k : ℕ) → table_names marks k 0 ≡ None
unfolding target_of
table_names-null marks k = refl

-- the cells of each element of a struct node, in the bytes of its file
abbrev pub named_cells : Naming Target → Header → Catalogue → List ℕ → Head → List (List Cell)
named_cells names h c b x =
    map (struct_cells names h.order c h.width x.index) (elements (payload h b x) (struct_length c x.index) x.count)

-- what the pointers of a node say of the nodes that they name; a raw node says nothing
abbrev pub named_views : Naming Target → Header → Catalogue → List ℕ → Head → List View
named_views names h c b x = if x.index == 0 then [] else flat_map (views_of c) (named_cells names h c b x)

-- what the pointers of all nodes say
unfoldable pub views_seen : Namings → Header → Catalogue → List Head → List ℕ → List View
views_seen names h c nodes b = flat_map (λ p. named_views (names p.0) h c b p.1) (enumerate_from 0 nodes)

-- the kind of node k by views; a struct node counts as bytes
abbrev pub kind_seen : List View → ℕ → Head → RawKind
kind_seen views k x = if x.index == 0 then raw_kind views x.code x.len k else Bytes

-- the kinds of all nodes by views
unfoldable pub kinds_seen : List Head → List View → List RawKind
kinds_seen nodes views = map (λ p. kind_seen views p.0 p.1) (enumerate_from 0 nodes)
