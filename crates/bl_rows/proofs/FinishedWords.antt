-- The commands of the finished program that words spell.
use Rattle.std.proofs.Common.{◌≡◌, ℕ, [], ◌∷◌, Option, None, Some, refl}
use Rattle.std.specs.Prelude.{◌==◌, map, codes}
use Prim.Native.String.{String}
use Rattle.std.specs.List.{slice_split}
use Rattle.bl_num.specs.declared.number.Order.{Order}
use Rattle.bl_num.specs.declared.number.Order.TheVariants.{Little, Big}
use Rattle.bl_num.specs.declared.number.Width.{Width}
use Rattle.bl_num.specs.declared.number.Width.TheVariants.{Four, Eight}
use Rattle.bl_commands.specs.declared.command.Command.{Command}
use Rattle.bl_commands.specs.declared.command.Command.TheVariants as commands
use Rattle.bl_commands.specs.declared.command.HeadForm.{HeadForm}
use Rattle.bl_commands.specs.declared.command.HeadForm.TheVariants.{Classic, Wide}
use Rattle.bl_commands.specs.declared.keeper.Keeper.TheVariants as keepers
use Rattle.bl_commands.specs.Commands.{Word, forms, command_by, keeper_word, keepers_of, option_given, are_options}

unfoldable words : ℕ
unfolding keeper_word keepers_of option_given are_options
words = 0

-- what words spell, with one space between each two
abbrev spelled : String → Option Command
spelled text = command_by forms (slice_split (λ b. b == 32) (codes text))

-- `a` to `b`, with options that are given
abbrev convert : Option Width → Option Order → Option HeadForm → Option Word → Option Command
convert width order head renames = Some (commands.Convert (codes "a") (codes "b")
    (record { like = None; width = width; order = order; head = head; renames = renames }))

edits : map spelled ("edit a b c" ∷ "edit a b" ∷ "edit a b c d" ∷ [])
    ≡ (Some (commands.Edit (codes "a") (codes "b") (codes "c")) ∷ None ∷ None ∷ [])
unfolding words
edits = refl

purges : map spelled ("purge f g ME" ∷ "purge f g other OB fake" ∷ "purge f g Object" ∷ "purge f g" ∷ "purge f g O"
    ∷ "unused f !~" ∷ "unused f" ∷ "unused f Fake" ∷ "unused a.bl-part ME" ∷ [])
    ≡ (Some (commands.Purge (codes "f") (codes "g") (keepers.Code (codes "ME") ∷ []))
    ∷ Some (commands.Purge (codes "f") (codes "g") (keepers.Other ∷ keepers.Code (codes "OB") ∷ keepers.Fake ∷ []))
    ∷ None ∷ None ∷ None ∷ Some (commands.Unused (codes "f") (keepers.Code (codes "!~") ∷ [])) ∷ None ∷ None ∷ None ∷ [])
unfolding words
purges = refl

-- LIB is another file than IN and OUT, which may be one
splits : map spelled ("split b o l MECube" ∷ "split b o b MECube" ∷ "split b o o MECube" ∷ "split b b l x y" ∷ "split b o l" ∷ [])
    ≡ (Some (commands.Split (codes "b") (codes "o") (codes "l") (codes "MECube" ∷ [])) ∷ None ∷ None
    ∷ Some (commands.Split (codes "b") (codes "b") (codes "l") (codes "x" ∷ codes "y" ∷ [])) ∷ None ∷ [])
unfolding words
splits = refl

-- wide heads have pointers of 8 bytes, and the lowest byte first
heads : map spelled ("convert a b --head wide" ∷ "convert a b --head classic --width 4 --order big"
    ∷ "convert a b --order little --head wide --width 8" ∷ "convert a b --head wide --width 4"
    ∷ "convert a b --order big --head wide" ∷ "convert a b --head" ∷ "convert a b --head Wide"
    ∷ "convert a b --head wide --head wide" ∷ [])
    ≡ (convert None None (Some Wide) None ∷ convert (Some Four) (Some Big) (Some Classic) None
    ∷ convert (Some Eight) (Some Little) (Some Wide) None ∷ None ∷ None ∷ None ∷ None ∷ None ∷ [])
unfolding words
heads = refl

renames : map spelled ("convert a b --renames r" ∷ "convert a b --renames r.bl-part" ∷ "fates a b" ∷ "fates a b --renames r"
    ∷ "fates a b --like r" ∷ "fates a b --renames r --renames r" ∷ "fates a" ∷ "fates a b --renames" ∷ [])
    ≡ (convert None None None (Some (codes "r")) ∷ None ∷ Some (commands.Fates (codes "a") (codes "b") None)
    ∷ Some (commands.Fates (codes "a") (codes "b") (Some (codes "r"))) ∷ None ∷ None ∷ None ∷ None ∷ [])
unfolding words
renames = refl
