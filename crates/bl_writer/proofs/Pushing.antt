-- Calls that push, one after another.
use Rattle.std.proofs.Common.{◌≡◌, ◌≤◌, ℕ, ◌+◌, List, [], length, take, Option, Some, refl, sym, ap, subst, ◌∙◌, arith}
use Rattle.std.specs.Vec.{with_items}
use Rattle.bl_shelf.specs.Told.{Told}
use Rattle.bl_shelf.specs.declared.shelf.Shelf.{Ghosts as ShelfGhosts}
use Rattle.bl_file.specs.declared.payload.Payload.{Ghosts}
use Rattle.bl_writer.specs.declared.buffer.OutBuffer.{OutBuffer}
use Rattle.bl_writer.specs.Calls.{Pushes, PushesFrom}
use Rattle.bl_writer.specs.Rendering.{Adds, CanAdd, HasAdded, Takes, pending}
use Rattle.bl_writer.proofs.Renderings.{takes_none, takes_more, takes_own, room_behind, room_less}

-- what stays at two calls stays at both
pub pushes_on : {S : Type 0} {g : ShelfGhosts S} {s s' s'' : S} → Pushes g s s' → Pushes g s' s'' → Pushes g s s''
pushes_on first second = record {
  held = second.held ∙ first.held;
  history = second.history ∙ first.history;
  faults = omega (arith, first.faults, second.faults);
  misses = omega (arith, first.misses, second.misses);
}

-- nothing is pushed
pub pushes_none : {S : Type 0} (g : ShelfGhosts S) (s : S) → Pushes g s s
pushes_none g s = record { held = refl; history = refl; faults = omega arith; misses = omega arith }

-- the same with a payload
pub pushes_from_on : {S P : Type 0} {g : ShelfGhosts S} {h : Ghosts P} {s s' s'' : S} {p p' p'' : P}
    → PushesFrom g h s s' p p' → PushesFrom g h s' s'' p' p'' → PushesFrom g h s s'' p p''
pushes_from_on first second = record {
  shelf = pushes_on first.shelf second.shelf;
  name = second.name ∙ first.name;
  size = second.size ∙ first.size;
  held = second.held;
}

-- ---- pieces

-- nothing is added
pub added_none : {S : Type 0} (g : ShelfGhosts S) (s : S) (b : OutBuffer) → b.filled ≤ length b.bytes.items → HasAdded g s s b b 0
added_none g s b filled = record { filled = filled; long = refl; room = takes_none _ _ }

-- one piece behind another
pub added_more : {S : Type 0} (g : ShelfGhosts S) (s s' s'' : S) (b b' b'' : OutBuffer) (n m : ℕ)
    → HasAdded g s s' b b' n → HasAdded g s' s'' b' b'' m → HasAdded g s s'' b b'' (n + m)
added_more g s s' s'' b b' b'' n m first second = record {
  filled = second.filled;
  long = second.long ∙ first.long;
  room = takes_more _ _ _ _ _ _ n m first.room second.room;
}

-- behind a piece there is room for what comes next
pub can_behind : {S : Type 0} (g : ShelfGhosts S) (s s' : S) (b b' : OutBuffer) (longest shorter n m all : ℕ) → n + m ≤ all → shorter ≤ longest
    → CanAdd g s b longest all → HasAdded g s s' b b' n → CanAdd g s' b' shorter m
can_behind g s s' b b' longest shorter n m all less short can added = record {
  filled = added.filled;
  fits = let fits = can.fits in omega (arith, fits, short, added.long);
  room = room_behind _ _ _ _ n m (room_less _ _ all (n + m) can.room less) added.room;
}

-- four pieces for which there is just room, in a buffer that holds nothing back
module _ {S : Type 0} (g : ShelfGhosts S) (s s1 : S) (b b1 : OutBuffer) (longest n1 n2 n3 n4 : ℕ) (full : g.room s ≡ Some (n1 + n2 + n3 + n4)) (empty : b.filled ≡ 0)
    (fits : longest ≤ length b.bytes.items) (first : HasAdded g s s1 b b1 n1) where
  start : CanAdd g s b longest (n1 + n2 + n3 + n4)
  start = record {
    filled = omega (arith, empty);
    fits = fits;
    room = rw (full, empty) (omega arith);
  }

  pub can_second : (shorter : ℕ) → shorter ≤ longest → CanAdd g s1 b1 shorter n2
  can_second shorter short = can_behind g s s1 b b1 longest shorter n1 n2 (n1 + n2 + n3 + n4) (omega arith) short start first

  module _ (s2 : S) (b2 : OutBuffer) (second : HasAdded g s1 s2 b1 b2 n2) where
    two : HasAdded g s s2 b b2 (n1 + n2)
    two = added_more g s s1 s2 b b1 b2 n1 n2 first second

    pub can_third : (shorter : ℕ) → shorter ≤ longest → CanAdd g s2 b2 shorter n3
    can_third shorter short = can_behind g s s2 b b2 longest shorter (n1 + n2) n3 (n1 + n2 + n3 + n4) (omega arith) short start two

    module _ (s3 : S) (b3 : OutBuffer) (third : HasAdded g s2 s3 b2 b3 n3) where
      three : HasAdded g s s3 b b3 (n1 + n2 + n3)
      three = added_more g s s2 s3 b b2 b3 (n1 + n2) n3 two third

      pub can_fourth : (shorter : ℕ) → shorter ≤ longest → CanAdd g s3 b3 shorter n4
      can_fourth shorter short = can_behind g s s3 b b3 longest shorter (n1 + n2 + n3) n4 (n1 + n2 + n3 + n4) (omega arith) short start three

      -- only what is held back has room at the end
      pub room_at_last : (s4 : S) (b4 : OutBuffer) → HasAdded g s3 s4 b3 b4 n4 → g.room s4 ≡ Some b4.filled
      room_at_last s4 b4 fourth =
          let all = added_more g s s3 s4 b b3 b4 (n1 + n2 + n3) n4 three fourth in
          all.room.left 0 (full ∙ ap Some (omega (arith, empty))) ∙ ap Some (omega arith)

-- what is added to a buffer that holds nothing back is added to nothing
pub adds_first : (b : OutBuffer) (t t' : Option Told) (text p' : List ℕ) → b.filled ≡ 0 → Adds t (pending b) text t' p' → Adds t [] text t' p'
adds_first b t t' text p' empty adds = subst (λ n. Adds t (take n b.bytes.items) text t' p') empty adds

-- what is put into the buffer behind a place is added
pub added_written : {S : Type 0} (g : ShelfGhosts S) (s s' : S) (b : OutBuffer) (ws : List ℕ) (at n : ℕ) → at + n ≤ length b.bytes.items
    → Takes (g.room s) b.filled 0 (g.room s') at → HasAdded g s s' b (record { bytes = with_items b.bytes ws; filled = at + n }) n
added_written g s s' b ws at n le takes =
    let same : length (with_items b.bytes ws).items ≡ length b.bytes.items = sym (with_items b.bytes ws).ok.0 ∙ b.bytes.ok.0 in
    record {
      filled = omega (arith, le, same);
      long = same;
      room = takes_own _ _ b.filled at n takes;
    }

-- a read behind it changes no room
pub added_read : {S : Type 0} {g : ShelfGhosts S} {s s' : S} {b b' : OutBuffer} (s'' : S) (n m : ℕ) → HasAdded g s s' b b' n → g.room s'' ≡ g.room s' → n ≡ m
    → HasAdded g s s'' b b' m
added_read {g} {s} {s'} {b} {b'} s'' n m added room same =
    subst (λ k. HasAdded g s s'' b b' k) same (record {
      filled = added.filled;
      long = added.long;
      room = subst (λ (r : Option ℕ). Takes (g.room s) b.filled n r b'.filled) (sym room) added.room;
    })
