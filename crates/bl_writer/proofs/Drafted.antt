-- What is left and answered where an output of an opened file's draft is rendered after some reads.
use Rattle.std.proofs.Common.{◌≡◌, ℕ, ◌<◌, ◌≤◌, List, [], length, Result, refl, sym, ap, subst, ◌∙◌, arith}
use Rattle.std.specs.Prelude.{IfOk, OnOk, option_map}
use Rattle.std.proofs.lemmas.Result.{on_ok_weaker}
use Rattle.bl_format.specs.declared.file.Head.{Head}
use Rattle.bl_format.specs.Limits.{most_output_nodes}
use Rattle.bl_selection.specs.declared.draft.Draft.{Draft}
use Rattle.bl_shelf.specs.Calls.{IsQuiet}
use Rattle.bl_shelf.specs.History.{History}
use Rattle.bl_shelf.specs.Told.{held_of}
use Rattle.bl_shelf.specs.declared.shelf.Shelf.{Ghosts as ShelfGhosts}
use Rattle.bl_file.specs.declared.outline.Outline.{Outline}
use Rattle.bl_file.specs.declared.payload.Payload.{Ghosts}
use Rattle.bl_file.specs.Calls.{Stays, Tells}
use Rattle.bl_file.specs.Outlines.{ArePairsLong}
use Rattle.bl_file.specs.Seen.{Namings}
use Rattle.bl_draft.specs.declared.prepared.Prepared.{Prepared}
use Rattle.bl_draft.specs.Own.{entry_kinds, outlined, own_names}
use Rattle.bl_draft.specs.Prepared.{IsPrepared}
use Rattle.bl_draft.specs.Sources.{IsSource}
use Rattle.bl_draft.specs.Structs.{AreStructsOf, HasNoClash}
use Rattle.bl_draft.proofs.OutlineFacts.{heads-IsNodeIn, length-heads}
use Rattle.bl_writer.specs.declared.fault.WriteFault.{WriteFault}
use Rattle.bl_writer.specs.declared.output.Output.{Output}
use Rattle.bl_writer.specs.declared.rendering.Totals.{Totals}
use Rattle.bl_writer.specs.Calls.{CountsWrites, HoldsFrom, RefusesFirst, Stages}
use Rattle.bl_writer.specs.Lengths.{KeepsOutputLimits, output_size}
use Rattle.bl_writer.specs.Outputs.{IsOutput, output_form}
use Rattle.bl_writer.specs.Rendered.{HasRendered, IsChecked}
use Rattle.bl_writer.specs.Rendering.{staged_as}
use Rattle.bl_writer.proofs.DraftForm.{IsOutputOf, draft_staged, draft_bytes, output_of}
use Rattle.bl_writer.proofs.DraftLimits.{count_is, draft_limits, draft_size}
use Rattle.bl_writer.proofs.Stagings.{IfOk-three, first_after, stages_after, writes_after}

-- nothing is read
pub stays_none : {S P : Type 0} (g : ShelfGhosts S) (h : Ghosts P) (s : S) (p : P) (o : Outline) (d : Draft) → IsSource g h s d o p → Stays g h s s p p
stays_none g h s p o d source = record {
  shelf = record { told = refl; room = refl; history = refl; faults = omega arith; misses = omega arith };
  name = refl;
  size = refl;
  held = source.held;
}

-- what a render of an output says of itself, from a shelf and a payload on
pub record IsRendered {S P : Type 0} (g : ShelfGhosts S) (h : Ghosts P) (name : List ℕ) (names : Namings) (out : Output) (s s' : S) (p p' : P)
    (result : Result Totals WriteFault) : Type 0 where
  pub staged : OnOk result (Tells g h s p (λ b. g.told s' ≡ option_map (staged_as name (output_form names out b)) (g.told s)))
  pub stages : Stages g name s s' result
  pub blocks : IfOk result (λ totals. totals.blocks ≡ length out.nodes.now)
  pub size : IfOk result (λ totals. totals.bytes ≡ output_size out)
  pub bytes : IfOk result (λ totals. Tells g h s p (λ b. totals.bytes ≡ length (output_form names out b)))
  pub limits : KeepsOutputLimits out result
  pub first : RefusesFirst g s s' result
  pub holds : HoldsFrom g h s s' p p'
  pub cause : CountsWrites g s s' result

module _ {S P : Type 0} (g : ShelfGhosts S) (h : Ghosts P) (name : List ℕ) (d : Draft) (o : Outline) (s s1 s2 : S) (p p1 p2 : P)
    (source : IsSource g h s d o p) (clear : HasNoClash o d) (few : length d.entries ≤ most_output_nodes)
    (stays : Stays g h s s1 p p1) (quiet : IsQuiet g s s1) where
  -- the draft of which the output is made is rendered
  pub drafted : (out : Output) (names : Namings) (result : Result Totals WriteFault) → IsOutputOf o d out → length out.kinds.now ≡ length out.nodes.now
      → ((e : ℕ) → e < length d.entries → names e ≡ own_names (outlined o []) d e)
      → Tells g h s p (λ b. out.kinds.now ≡ entry_kinds (outlined o b) d)
      → IsRendered g h name names out s1 s2 p1 p2 result → HasRendered g h name d o s s2 p p2 result
  drafted out names result of many named kinds is = record {
    staged = on_ok_weaker result
        (draft_staged o d out names source.draft of named (g.told s) (g.told s1) (h.file_name p) (h.file_name p1) stays.shelf.told stays.name source.stands kinds (g.told s2) name)
        is.staged;
    stages = stages_after g s s1 s2 stays.shelf name result is.stages;
    totals = IfOk-three result _ _ _ _ is.blocks is.size is.bytes
        (λ totals blocks size bytes. record {
          blocks = blocks ∙ count_is o d out source.draft of;
          size = draft_size o d out source.draft of many totals.bytes size;
          bytes = draft_bytes o d out names source.draft of named (g.told s) (g.told s1) (h.file_name p) (h.file_name p1) stays.shelf.told stays.name source.stands kinds totals.bytes bytes;
        });
    limits = draft_limits o d out source.draft of g h s p source.stands kinds result clear few is.limits;
    first = first_after g s s1 s2 stays.shelf result is.first;
    holds = record {
      shelf = record {
        held = is.holds.shelf.held ∙ ap held_of stays.shelf.told;
        commits = is.holds.shelf.commits ∙ ap (λ (x : History). x.commits) stays.shelf.history;
        faults = omega (arith, is.holds.shelf.faults, stays.shelf.faults);
        misses = omega (arith, is.holds.shelf.misses, stays.shelf.misses);
      };
      name = is.holds.name ∙ stays.name;
      size = is.holds.size ∙ stays.size;
      held = is.holds.held;
    };
    cause = writes_after g s s1 s2 stays.shelf result quiet is.cause;
  }

module _ {S P : Type 0} (g : ShelfGhosts S) (h : Ghosts P) (x : Prepared) (s s1 : S) (p p1 : P) (is : IsPrepared g h s p x) (checked : IsChecked x)
    (stays : Stays g h s s1 p p1) where
  abbrev o : Outline
  o = x.outline.now

  abbrev d : Draft
  d = x.draft.now

  -- an output of a prepared draft can be written
  pub prepared_output : (out : Output) → IsOutputOf o d out → out.structs.now ≡ x.structs.now → length out.kinds.now ≡ length d.entries
      → ArePairsLong x.heads.now out.kinds.now → IsOutput out (h.file_size p1)
  prepared_output out of structs len pairs =
      let source = is.source in
      let many : length out.nodes.now ≡ length d.entries = ap (λ (xs : List Head). length xs) of.nodes ∙ length-heads o.nodes d.entries in
      output_of o d out source.draft of (subst (AreStructsOf o d) (sym structs) is.structs) (h.file_size p1) source.sound
      (omega (arith, many, checked.few)) (stays.size ∙ source.size) (heads-IsNodeIn o d out.nodes.now source.sound source.draft of.nodes)
      (len ∙ sym many) (subst (λ (xs : List Head). ArePairsLong xs out.kinds.now) (is.heads ∙ sym of.nodes) pairs)

  -- and what is rendered of it is the draft
  pub prepared_drafted : (s2 : S) (p2 : P) (name : List ℕ) (out : Output) (names : Namings) (result : Result Totals WriteFault) → IsQuiet g s s1
      → IsOutputOf o d out → length out.kinds.now ≡ length d.entries → ((e : ℕ) → e < length d.entries → names e ≡ own_names (outlined o []) d e)
      → Tells g h s p (λ b. out.kinds.now ≡ entry_kinds (outlined o b) d) → IsRendered g h name names out s1 s2 p1 p2 result
      → HasRendered g h name d o s s2 p p2 result
  prepared_drafted s2 p2 name out names result quiet of len named kinds rendered =
      let many : length out.nodes.now ≡ length d.entries = ap (λ (xs : List Head). length xs) of.nodes ∙ length-heads o.nodes d.entries in
      drafted g h name d o s s1 s2 p p1 p2 is.source checked.no_clash checked.few stays quiet out names result of (len ∙ sym many) named kinds rendered
