-- What is taken of each entry of a draft of one file's nodes, one after another.
use Rattle.std.specs.Prelude.{ℕ, ◌<◌, false, List, map, get_or}
use Rattle.std.specs.List.{enumerate_from}
use Rattle.bl_format.specs.declared.file.Head.{Head}
use Rattle.bl_format.specs.Nodes.{Mark, group_of}
use Rattle.bl_selection.specs.declared.draft.Entry.{Entry}
use Rattle.bl_draft.specs.Own.{IsOfSource, entry_node}

-- an entry is one of so many nodes, of the only source
abbrev pub IsNodeBelow : ℕ → Entry → Type 0
IsNodeBelow count x = IsOfSource x × (entry_node x < count)

-- what stands for a node that isn't there
abbrev pub no_mark : Mark
no_mark = record { group = 0; address = 0; is_an_id = false }

-- the group of an entry's node in the source
abbrev pub source_group : List Mark → Entry → ℕ
source_group marks x = (get_or marks (entry_node x) no_mark).group

-- for each of some nodes the number of its group among them
abbrev pub groups_among : List Head → List ℕ
groups_among heads = map (λ p. group_of (map (λ (x : Head). x.code) heads) p.0) (enumerate_from 0 heads)
