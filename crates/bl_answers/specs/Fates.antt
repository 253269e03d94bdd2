-- What fates prints: what becomes of each member under another catalogue. This project's own.
use Rattle.std.specs.Prelude.{ℕ, List, [], ◌∷◌, ◌++◌, flat_map, Option, Some, None, codes}
use Rattle.bl_num.specs.declared.number.Width.{Width}
use Rattle.bl_format.specs.declared.catalogue.Catalogue.{Catalogue}
use Rattle.bl_format.specs.Layout.{struct_numbers, member_numbers, struct_name, struct_named}
use Rattle.bl_selection.specs.declared.draft.Fate.{Fate}
use Rattle.bl_selection.specs.declared.draft.Fate.TheVariants as fates
use Rattle.bl_selection.specs.Fate.{fate_of}
use Rattle.bl_commands.specs.Texts.{Text, shown_bytes, line}
use Rattle.bl_answers.specs.Schema.{indent, whole_member_name}

-- the word for a fate
abbrev pub fate_text : Fate → Text
fate_text fates.Kept = codes "kept"
fate_text fates.Cast = codes "cast"
fate_text fates.Cut = codes "cut"
fate_text fates.Extended = codes "extended"
fate_text fates.Fresh = codes "fresh"
fate_text fates.FloatCast = codes "float-cast"

-- the line of a struct of which the other catalogue has none of its name
unfoldable pub new_struct_line : List ℕ → Text
new_struct_line name = line (codes "struct" ∷ shown_bytes name ∷ codes "new" ∷ [])

-- the line of a struct of which both catalogues have one of its name
unfoldable pub common_struct_line : List ℕ → Text
common_struct_line name = line (codes "struct" ∷ shown_bytes name ∷ [])

-- the line of a member by its whole name and its fate
unfoldable pub fate_line_by : List ℕ → Fate → Text
fate_line_by name fate = indent ++ line (shown_bytes name ∷ fate_text fate ∷ [])

-- the line of member k of struct t, which meets struct s
abbrev pub fate_line : Catalogue → Width → ℕ → Catalogue → Width → ℕ → ℕ → Text
fate_line from v s to w t k = fate_line_by (whole_member_name to t k) (fate_of from v s to w t k)

-- the lines of struct t, which meets struct s: its own, and then the fates of its members
abbrev pub common_struct_lines : Catalogue → Width → ℕ → Catalogue → Width → ℕ → Text
common_struct_lines from v s to w t =
    common_struct_line (struct_name to t) ++ flat_map (fate_line from v s to w t) (member_numbers to t)

-- the lines of struct t, by the struct that it meets, if there is one
abbrev pub lines_by_source : Catalogue → Width → Option ℕ → Catalogue → Width → ℕ → Text
lines_by_source from v None to w t = new_struct_line (struct_name to t)
lines_by_source from v (Some s) to w t = common_struct_lines from v s to w t

-- the lines of struct t, which meets the struct of its name
abbrev pub fate_lines : Catalogue → Width → Catalogue → Width → ℕ → Text
fate_lines from v to w t = lines_by_source from v (struct_named from (struct_name to t)) to w t

-- what fates prints: the lines of all structs of the target's catalogue
unfoldable pub fates_text : Catalogue → Width → Catalogue → Width → Text
fates_text from v to w = flat_map (fate_lines from v to w) (struct_numbers to)
