-- What is read of a part is read of the bytes that are held.
use Rattle.std.proofs.Common.{◌≡◌, ℕ, ◌+◌, ◌-◌, ◌<◌, ◌≤◌, List, [], ◌∷◌, ◌++◌, length, take, Option, Some, option_map, Result, Ok, Err, All, refl, ap, subst, ◌∙◌, arith}
use Rattle.std.specs.Prelude.{IfOk, IfErr, min}
use Rattle.std.specs.Result.{result_err}
use Rattle.std.proofs.lemmas.List.{length-take-le}
use Rattle.std.proofs.lemmas.List.Elements.{All-nil, All-cons, All-append}
use Rattle.bl_num.specs.declared.number.Width.{Width}
use Rattle.bl_num.specs.declared.number.Width.TheVariants.{Four, Eight}
use Rattle.bl_num.specs.Numbers.{pointer_bytes}
use Rattle.bl_format.specs.declared.file.Header.{Header}
use Rattle.bl_format.specs.declared.file.Head.{Head}
use Rattle.bl_format.specs.declared.file.HeadFault.{HeadFault}
use Rattle.bl_format.specs.declared.file.BlockFault.{BlockFault}
use Rattle.bl_format.specs.declared.file.BlockFault.TheVariants.{TooManyBlocks}
use Rattle.bl_format.specs.declared.file.Step.{Step}
use Rattle.bl_format.specs.declared.file.Step.TheVariants.{Block, End}
use Rattle.bl_format.specs.Limits.{first_version, last_version, most_blocks}
use Rattle.bl_format.specs.Blocks.{header_of, header_size, head_size, step_in, step_at, blocks_of, AreBlocks}
use Rattle.bl_format.proofs.BlocksOf.{within_ends, within_fails, within_full, AreBlocks-push}
use Rattle.bl_format.proofs.HeaderFacts.{header_facts}
use Rattle.bl_shelf.specs.Told.{Told}
use Rattle.bl_file.specs.declared.fault.OpenFault.{OpenFault}
use Rattle.bl_file.specs.declared.fault.OpenFault.TheVariants.{Head as InHead, Block as InBlock}
use Rattle.bl_file.specs.Held.{IsHeldAnd}
use Rattle.bl_file.specs.Reading.{IsFaultOf, IsPartAt, IsBlockIn, IsStepIn, IsHeaderFault, IsStepFault, IsBlocksFault, with_fault}
use Rattle.bl_file.proofs.HeldLemmas.{IsHeldAnd-weaker, IsHeldAnd-both, IsFaultOf-both}
use Rattle.bl_file.proofs.Windows.{header_of-part, step_at-part, step_in-sound}

-- as many places of a window are filled as were cut off
pub window_length : (n : ℕ) (window p : List ℕ) → length p ≡ length (take n window) → n ≤ length window → length p ≡ n
window_length n window p same fits = same ∙ length-take-le n window fits

-- ---- a result of a part

-- what is so of each value that is read
pub each_read : {X Fault : Type 0} (of_file : Fault → OpenFault) (x : Result X Fault) (r : Result X OpenFault) (Such : X → Type 0)
    → r ≡ with_fault of_file x → ((y : X) → x ≡ Ok y → Such y) → IfOk r Such
each_read of_file (Ok y) r Such is so = rw is (so y refl)
each_read of_file (Err fault) r Such is so = rw is tt

-- the value that is read is that of the bytes that are held
pub held_read : {X Fault : Type 0} (told : Option Told) (name : List ℕ) (of_file : Fault → OpenFault) (read : List ℕ → Result X Fault) (x : Result X Fault) (r : Result X OpenFault)
    → r ≡ with_fault of_file x → IsHeldAnd told name (λ b. read b ≡ x) → IfOk r (λ y. IsHeldAnd told name (λ b. read b ≡ Ok y))
held_read told name of_file read (Ok y) r is held = rw is held
held_read told name of_file read (Err fault) r is held = rw is tt

-- the fault that is found is that of the bytes that are held
pub held_fault : {X Fault : Type 0} (told : Option Told) (name : List ℕ) (of_file : Fault → OpenFault) (read : List ℕ → Result X Fault) (Why : OpenFault → List ℕ → Type 0) (x : Result X Fault) (r : Result X OpenFault)
    → r ≡ with_fault of_file x → IsHeldAnd told name (λ b. read b ≡ x) → ((fault : Fault) (b : List ℕ) → read b ≡ Err fault → Why (of_file fault) b)
    → ((fault : Fault) → IsHeldAnd told name (Why (of_file fault)) → IsFaultOf told name Why (of_file fault)) → IfErr r (IsFaultOf told name Why)
held_fault told name of_file read Why (Ok y) r is held why file = rw is tt
held_fault told name of_file read Why (Err fault) r is held why file =
    rw is (file fault (IsHeldAnd-weaker told name (λ b. read b ≡ Err fault) (Why (of_file fault)) held (why fault)))

-- what is so of each fault that is found
pub each_fault : {X Fault : Type 0} (of_file : Fault → OpenFault) (x : Result X Fault) (r : Result X OpenFault) (Such : OpenFault → Type 0)
    → r ≡ with_fault of_file x → ((fault : Fault) → Such (of_file fault)) → IfErr r Such
each_fault of_file (Ok y) r Such is so = rw is tt
each_fault of_file (Err fault) r Such is so = rw is (so fault)

-- ---- the header

held_header : (told : Option Told) (name : List ℕ) (size : ℕ) (p : List ℕ) → length p ≡ min size 12 → IsHeldAnd told name (IsPartAt size 0 p) → IsHeldAnd told name (λ b. header_of b ≡ header_of p)
held_header told name size p fits held = IsHeldAnd-weaker told name (IsPartAt size 0 p) (λ b. header_of b ≡ header_of p) held (λ b copied. header_of-part size p b fits copied)

module _ (told : Option Told) (name : List ℕ) (size : ℕ) (p : List ℕ) (r : Result Header OpenFault) (fits : length p ≡ min size 12) (is : r ≡ with_fault InHead (header_of p)) where
  pub header_read : IsHeldAnd told name (IsPartAt size 0 p) → IfOk r (λ h. IsHeldAnd told name (λ b. header_of b ≡ Ok h))
  header_read held = held_read told name InHead header_of (header_of p) r is (held_header told name size p fits held)

  pub header_fault : IsHeldAnd told name (IsPartAt size 0 p) → IfErr r (IsFaultOf told name IsHeaderFault)
  header_fault held =
      held_fault told name InHead header_of IsHeaderFault (header_of p) r is (held_header told name size p fits held)
      (λ fault b err. ap (λ (x : Result Header HeadFault). option_map InHead (result_err x)) err) (λ fault why. why)

  pub header_version : IfOk r (λ h. (first_version ≤ h.version) × (h.version ≤ last_version))
  header_version = each_read InHead (header_of p) r (λ h. (first_version ≤ h.version) × (h.version ≤ last_version)) is (λ h read. let facts = header_facts p h read in (facts.oldest, facts.newest))

  pub header_whole : IfOk r (λ h. header_size h ≤ size)
  header_whole = each_read InHead (header_of p) r (λ h. header_size h ≤ size) is (λ h read. let whole = (header_facts p h read).whole in omega (arith, whole, fits))

-- ---- a step

-- a head has 20 bytes or more
pub head_long : (h : Header) → 20 ≤ head_size h
head_long h = by h.width
  where
    by : (width : Width) → 20 ≤ 16 + pointer_bytes width
    by Four = omega arith
    by Eight = omega arith

-- the longest head's window is long enough
pub windowed : (h : Header) (n left size : ℕ) → n ≡ min left size → size ≡ head_size h → n ≤ 24
windowed h n left size least head = omega (arith, least, head, longest h.width)
  where
    longest : (width : Width) → pointer_bytes width ≤ 8
    longest Four = omega arith
    longest Eight = omega arith

held_step : (told : Option Told) (name : List ℕ) (h : Header) (size at : ℕ) (p : List ℕ) → All (λ x. x < 256) p → min (head_size h) (size - at) ≤ length p
    → IsHeldAnd told name (IsPartAt size at p) → IsHeldAnd told name (λ b. step_at h b at ≡ step_in h p at size)
held_step told name h size at p bytes fits held =
    IsHeldAnd-weaker told name (IsPartAt size at p) (λ b. step_at h b at ≡ step_in h p at size) held (λ b copied. step_at-part h size at p b bytes fits copied)

module _ (told : Option Told) (name : List ℕ) (h : Header) (size at : ℕ) (p : List ℕ) (r : Result Step OpenFault) (bytes : All (λ x. x < 256) p) (fits : min (head_size h) (size - at) ≤ length p) (is : r ≡ with_fault InBlock (step_in h p at size)) where
  pub step_read : IsHeldAnd told name (IsPartAt size at p) → IfOk r (λ step. IsHeldAnd told name (λ b. step_at h b at ≡ Ok step))
  step_read held = held_read told name InBlock (λ b. step_at h b at) (step_in h p at size) r is (held_step told name h size at p bytes fits held)

  pub step_fault : IsHeldAnd told name (IsPartAt size at p) → IfErr r (IsFaultOf told name (IsStepFault h at))
  step_fault held =
      held_fault told name InBlock (λ b. step_at h b at) (IsStepFault h at) (step_in h p at size) r is (held_step told name h size at p bytes fits held)
      (λ fault b err. ap (λ (x : Result Step BlockFault). option_map InBlock (result_err x)) err) (λ fault why. why)

  pub step_sound : header_size h ≤ at → at + length p ≤ size → IfOk r (IsStepIn h at size)
  step_sound behind inside = each_read InBlock (step_in h p at size) r (IsStepIn h at size) is (λ step found. step_in-sound h size at p step behind inside fits bytes found)

-- ---- all blocks

-- the blocks so far, and the next one
pub held_push : (told : Option Told) (name : List ℕ) (h : Header) (at : ℕ) (heads : List Head) (x : Head) → IsHeldAnd told name (λ b. AreBlocks h b (header_size h) heads at)
    → IsHeldAnd told name (λ b. step_at h b at ≡ Ok (Block x)) → IsHeldAnd told name (λ b. AreBlocks h b (header_size h) (heads ++ x ∷ []) (at + head_size h + x.len))
held_push told name h at heads x stand step =
    IsHeldAnd-both told name (λ b. AreBlocks h b (header_size h) heads at) (λ b. step_at h b at ≡ Ok (Block x)) (λ b. AreBlocks h b (header_size h) (heads ++ x ∷ []) (at + head_size h + x.len))
    stand step (λ b blocks found. AreBlocks-push h b (header_size h) at heads x blocks found)

-- the blocks so far, and the end
pub held_end : (told : Option Told) (name : List ℕ) (h : Header) (at : ℕ) (heads : List Head) → IsHeldAnd told name (λ b. AreBlocks h b (header_size h) heads at)
    → IsHeldAnd told name (λ b. step_at h b at ≡ Ok End) → length heads < most_blocks + 1 → IsHeldAnd told name (λ b. blocks_of h b ≡ Ok heads)
unfolding blocks_of
held_end told name h at heads stand step few =
    IsHeldAnd-both told name (λ b. AreBlocks h b (header_size h) heads at) (λ b. step_at h b at ≡ Ok End) (λ b. blocks_of h b ≡ Ok heads)
    stand step (λ b blocks ends. within_ends h b (most_blocks + 1) (header_size h) at heads blocks ends few)

blocks_fault : (h : Header) (b : List ℕ) (at : ℕ) (heads : List Head) (fault : OpenFault) (step : Result Step BlockFault) → step_at h b at ≡ step → AreBlocks h b (header_size h) heads at → length heads < most_blocks + 1
    → option_map InBlock (result_err step) ≡ Some fault → IsBlocksFault h fault b
unfolding blocks_of
blocks_fault h b at heads fault (Ok other) is blocks few why = absurd (cc)
blocks_fault h b at heads fault (Err other) is blocks few why =
    ap (λ (r : Result (List Head) BlockFault). option_map InBlock (result_err r)) (within_fails h b (most_blocks + 1) (header_size h) at heads other blocks is few) ∙ why

-- the blocks so far, and a fault of the next step
pub held_step_fault : (told : Option Told) (name : List ℕ) (h : Header) (at : ℕ) (heads : List Head) (fault : OpenFault) → IsHeldAnd told name (λ b. AreBlocks h b (header_size h) heads at)
    → IsFaultOf told name (IsStepFault h at) fault → length heads < most_blocks + 1 → IsFaultOf told name (IsBlocksFault h) fault
held_step_fault told name h at heads fault stand why few =
    IsFaultOf-both told name (λ b. AreBlocks h b (header_size h) heads at) (IsStepFault h at) (IsBlocksFault h) fault stand why (λ b blocks err. blocks_fault h b at heads fault (step_at h b at) refl blocks few err)

-- more blocks than there may be
pub held_full : (told : Option Told) (name : List ℕ) (h : Header) (at : ℕ) (heads : List Head) → IsHeldAnd told name (λ b. AreBlocks h b (header_size h) heads at)
    → length heads ≡ most_blocks + 1 → IsFaultOf told name (IsBlocksFault h) (InBlock (TooManyBlocks (most_blocks + 1)))
unfolding blocks_of
held_full told name h at heads stand full =
    IsHeldAnd-weaker told name (λ b. AreBlocks h b (header_size h) heads at) (IsBlocksFault h (InBlock (TooManyBlocks (most_blocks + 1)))) stand
    (λ b blocks. ap (λ (r : Result (List Head) BlockFault). option_map InBlock (result_err r)) (within_full h b (most_blocks + 1) (header_size h) at heads blocks full))

-- what is sound of the blocks so far and of the next one
pub sound_push : (h : Header) (size : ℕ) (heads : List Head) (x : Head) → All (IsBlockIn h size) heads → IsBlockIn h size x → All (IsBlockIn h size) (heads ++ x ∷ [])
sound_push h size heads x sound next = All-append (IsBlockIn h size) heads (x ∷ []) sound (All-cons (IsBlockIn h size) x [] next (All-nil (IsBlockIn h size)))

-- what is held of a shelf and a payload that tell and name the same as others
pub held_moved : (told told' : Option Told) (name name' : List ℕ) (Such : List ℕ → Type 0) → told' ≡ told → name' ≡ name → IsHeldAnd told' name' Such → IsHeldAnd told name Such
held_moved told told' name name' Such same same' held = subst (λ (t : Option Told). IsHeldAnd t name Such) same (subst (λ (n : List ℕ). IsHeldAnd told' n Such) same' held)

-- the same where the next step is that of a shelf and a payload that tell and name the same
module _ (told told' : Option Told) (name name' : List ℕ) (same : told' ≡ told) (same' : name' ≡ name) (h : Header) (at : ℕ) (heads : List Head)
    (stand : IsHeldAnd told name (λ b. AreBlocks h b (header_size h) heads at)) where
  pub next_stand : (step : Step) (x : Head) → IsHeldAnd told' name' (λ b. step_at h b at ≡ Ok step) → step ≡ Block x → IsHeldAnd told name (λ b. AreBlocks h b (header_size h) (heads ++ x ∷ []) (at + head_size h + x.len))
  next_stand step x found is =
      held_push told name h at heads x stand
      (subst (λ (s : Step). IsHeldAnd told name (λ b. step_at h b at ≡ Ok s)) is (held_moved told told' name name' (λ b. step_at h b at ≡ Ok step) same same' found))

  pub end_read : (step : Step) → IsHeldAnd told' name' (λ b. step_at h b at ≡ Ok step) → step ≡ End → length heads < most_blocks + 1 → IsHeldAnd told name (λ b. blocks_of h b ≡ Ok heads)
  end_read step found is few =
      held_end told name h at heads stand
      (subst (λ (s : Step). IsHeldAnd told name (λ b. step_at h b at ≡ Ok s)) is (held_moved told told' name name' (λ b. step_at h b at ≡ Ok step) same same' found)) few

  pub fault_found : (fault : OpenFault) → IsFaultOf told' name' (IsStepFault h at) fault → length heads < most_blocks + 1 → IsFaultOf told name (IsBlocksFault h) fault
  fault_found fault found few =
      held_step_fault told name h at heads fault stand
      (subst (λ (t : Option Told). IsFaultOf t name (IsStepFault h at) fault) same (subst (λ (n : List ℕ). IsFaultOf told' n (IsStepFault h at) fault) same' found)) few

-- what a step says of the block that it finds
pub next_sound : (h : Header) (size at : ℕ) (step : Step) (x : Head) → IsStepIn h at size step → step ≡ Block x → (x.at ≡ at) × IsBlockIn h size x
next_sound h size at step x sound is = subst (IsStepIn h at size) is sound
