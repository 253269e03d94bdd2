-- An element that is written step by step is what its plan says, whatever stood there before.
use Rattle.std.proofs.Common.{◌≡◌, ℕ, ◌+◌, ◌-◌, ◌*◌, ◌≤◌, ◌<◌, List, [], ◌∷◌, ◌++◌, length, take, drop, get_or, refl, sym, ap, subst, ◌∙◌, append_assoc, append-nil, arith, drop_of_length-le}
use Rattle.std.proofs.lemmas.List.{take_at, length-append, length-replicate, length-take-le, length-drop, drop_more}
use Rattle.bl_num.specs.declared.number.Order.{Order}
use Rattle.bl_format.specs.Words.{zeros}
use Rattle.bl_format.specs.Graph.{Target, Naming}
use Rattle.bl_members.specs.Leaf.{replaced_at}
use Rattle.bl_plan.specs.declared.steps.Step.{Step}
use Rattle.bl_plan.specs.Steps.{target_size, step_written, step_end, steps_written, AreInOrder}
use Rattle.bl_rebuild.specs.Runs.{cleared}
use Rattle.bl_rebuild.proofs.RunLaws.{length-step_written}

-- bytes and those that are put behind them
put_long : (at : ℕ) (new dst : List ℕ) → at + length new ≤ length dst → length (take at dst ++ new) ≡ at + length new
put_long at new dst room =
    length-append (take at dst) new ∙ ap (λ (n : ℕ). n + length new) (length-take-le at dst (omega (arith, room)))

-- up to the end of what was put stand the bytes before it and itself
until_put : (at : ℕ) (new dst : List ℕ) → at + length new ≤ length dst → take (at + length new) (replaced_at at new dst) ≡ take at dst ++ new
until_put at new dst room =
    let until : ℕ = at + length new in
    ap (take until) (sym (append_assoc (take at dst) new (drop until dst)))
    ∙ take_at (take at dst ++ new) (drop until dst) until (put_long at new dst room)

-- a part that is replaced by as many bytes leaves them as long
pub length-replaced_at : (at : ℕ) (new dst : List ℕ) → at + length new ≤ length dst → length (replaced_at at new dst) ≡ length dst
length-replaced_at at new dst le =
    omega (arith, le, length-append (take at dst) (new ++ drop (at + length new) dst), length-append new (drop (at + length new) dst), length-take-le at dst (omega (arith, le)), length-drop (at + length new) dst)

-- steps in order end behind their start
order_rises : (at end : ℕ) (xs : List Step) → AreInOrder at xs end → at ≤ end
order_rises at end [] apart = apart
order_rises at end (x ∷ xs) apart = let later = order_rises (step_end x) end xs apart.1 in omega (arith, apart.0, later)

module _ (names : Naming Target) (from to : Order) (src : List ℕ) (n : ℕ) (steps : List Step) where
  -- some bytes are written up to a place, by all steps before one
  pub record IsApplied (i done : ℕ) (dst : List ℕ) : Type 0 where
    pub long : length dst ≡ n
    pub apart : AreInOrder done (drop i steps) n
    pub ahead : take done dst ++ steps_written names from to src n done (drop i steps) ≡ steps_written names from to src n 0 steps

  -- nothing is written yet
  pub applied_none : (dst : List ℕ) → length dst ≡ n → AreInOrder 0 steps n → IsApplied 0 0 dst
  applied_none dst long apart = record { long = long; apart = apart; ahead = refl }

  -- the next step, and those behind it
  next_step : (i : ℕ) (x d : Step) → i < length steps → x ≡ get_or steps i d → drop i steps ≡ x ∷ drop (i + 1) steps
  next_step i x d lt is = drop_more steps i d lt ∙ ap (λ (y : Step). y ∷ drop (i + 1) steps) (sym is)

  -- where the next step writes
  pub record HasRoom (done : ℕ) (x : Step) : Type 0 where
    pub behind : done ≤ x.to
    pub inside : step_end x ≤ n

  pub next_room : (i done : ℕ) (x d : Step) (dst : List ℕ) → i < length steps → x ≡ get_or steps i d → IsApplied i done dst → HasRoom done x
  next_room i done x d dst lt is so_far =
      let apart : AreInOrder done (x ∷ drop (i + 1) steps) n = subst (λ (t : List Step). AreInOrder done t n) (next_step i x d lt is) so_far.apart in
      record { behind = apart.0; inside = order_rises (step_end x) n (drop (i + 1) steps) apart.1 }

  -- and it begins and ends there
  pub next_inside : (i done : ℕ) (d : Step) (dst : List ℕ) → i < length steps → IsApplied i done dst
      → ((get_or steps i d).to ≤ length dst) × (step_end (get_or steps i d) ≤ length dst)
  next_inside i done d dst lt so_far =
      let room = next_room i done (get_or steps i d) d dst lt refl so_far in
      (omega (arith, room.inside, so_far.long), omega (arith, room.inside, so_far.long))

  -- one step more, behind zeros
  pub applied_more : (i done : ℕ) (x d : Step) (dst clean new : List ℕ) → i < length steps → x ≡ get_or steps i d
      → clean ≡ cleared done x.to dst → new ≡ replaced_at x.to (step_written names from to src x) clean
      → IsApplied i done dst → IsApplied (i + 1) (step_end x) new
  unfolding steps_written
  applied_more i done x d dst clean new lt is clean_is new_is so_far =
      let rest : List Step = drop (i + 1) steps in
      let cut : drop i steps ≡ x ∷ rest = next_step i x d lt is in
      let apart : AreInOrder done (x ∷ rest) n = subst (λ (t : List Step). AreInOrder done t n) cut so_far.apart in
      let inside : step_end x ≤ n = order_rises (step_end x) n rest apart.1 in
      let front : List ℕ = take done dst in
      let gap : List ℕ = zeros (x.to - done) in
      let own : List ℕ = step_written names from to src x in
      let later : List ℕ = steps_written names from to src n (step_end x) rest in
      let own_long : length own ≡ x.count * target_size x.carry = length-step_written names from to src x in
      let gap_long : length gap ≡ x.to - done = length-replicate {A = ℕ} (x.to - done) 0 in
      let start : done + length gap ≡ x.to = omega (arith, gap_long, apart.0) in
      let end : x.to + length own ≡ step_end x = omega (arith, own_long) in
      let room : done + length gap ≤ length dst = omega (arith, start, inside, so_far.long) in
      let clean_long : length clean ≡ n = ap (λ (t : List ℕ). length t) clean_is ∙ length-replaced_at done gap dst room ∙ so_far.long in
      let clean_front : take x.to clean ≡ front ++ gap =
      ap (take x.to) clean_is ∙ ap (λ (m : ℕ). take m (cleared done x.to dst)) (sym start) ∙ until_put done gap dst room in
      let within : x.to + length own ≤ length clean = omega (arith, end, inside, clean_long) in
      let new_front : take (step_end x) new ≡ (front ++ gap) ++ own =
      ap (take (step_end x)) new_is ∙ ap (λ (m : ℕ). take m (replaced_at x.to own clean)) (sym end) ∙ until_put x.to own clean within
      ∙ ap (λ (t : List ℕ). t ++ own) clean_front in
      record {
        long = ap (λ (t : List ℕ). length t) new_is ∙ length-replaced_at x.to own clean within ∙ clean_long;
        apart = apart.1;
        ahead = ap (λ (t : List ℕ). t ++ later) new_front
            ∙ append_assoc (front ++ gap) own later
            ∙ append_assoc front gap (own ++ later)
            ∙ sym (ap (λ (t : List Step). front ++ steps_written names from to src n done t) cut)
            ∙ so_far.ahead;
      }

  -- behind the last step all is zero
  pub applied_all : (i done : ℕ) (dst new : List ℕ) (end : ℕ) → length steps ≤ i → end ≡ length dst → new ≡ cleared done end dst
      → IsApplied i done dst → new ≡ steps_written names from to src n 0 steps
  unfolding steps_written
  applied_all i done dst new end le is new_is so_far =
      let gap : List ℕ = zeros (end - done) in
      let none : drop i steps ≡ [] = drop_of_length-le steps le in
      let rises : done ≤ n = order_rises done n (drop i steps) so_far.apart in
      let same : end ≡ n = is ∙ so_far.long in
      new_is
      ∙ ap (λ (t : List ℕ). take done dst ++ (gap ++ t)) (drop_of_length-le dst (omega (arith, length-replicate {A = ℕ} (end - done) 0, is)))
      ∙ ap (λ (t : List ℕ). take done dst ++ t) (append-nil gap)
      ∙ ap (λ (m : ℕ). take done dst ++ zeros (m - done)) same
      ∙ sym (ap (λ (t : List Step). take done dst ++ steps_written names from to src n done t) none)
      ∙ so_far.ahead
