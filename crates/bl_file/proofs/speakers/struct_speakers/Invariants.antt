use Rattle.std.proofs.Common.{◌≡◌, map}
use Rattle.bl_format.specs.Words.{numbers_below}
use Rattle.bl_format.specs.Layout.{leaves_of}
use Rattle.bl_file.specs.Speakers.{speakers_of}
use Rattle.bl_file.proofs.speakers.struct_speakers.Given as goal

abbrev pub invariant-loop-s : goal.invariant-loop-s
invariant-loop-s l =
    l.structs.items ≡ map (λ s. speakers_of l.basics (leaves_of l.layout.catalogue l.layout.width s)) (numbers_below l.s)
