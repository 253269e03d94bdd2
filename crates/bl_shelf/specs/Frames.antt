-- What a call leaves of a shelf as it was, in one word. This project's own.
use Rattle.std.specs.Prelude.{◌≡◌, ◌≤◌, ℕ, Option}
use Rattle.bl_shelf.specs.History.{History}
use Rattle.bl_shelf.specs.Told.{Told, held_of}

-- a shelf is as before, by what it says of itself, and none of its counts fell
pub record KeepsAs {S : Type 0} (told_of : S → Option Told) (room_of : S → Option ℕ) (history_of : S → History) (faults_of misses_of : S → ℕ) (s s' : S) : Type 0 where
  pub told : told_of s' ≡ told_of s
  pub room : room_of s' ≡ room_of s
  pub history : history_of s' ≡ history_of s
  pub faults : faults_of s ≤ faults_of s'
  pub misses : misses_of s ≤ misses_of s'

-- what is held is as before, no commit took effect, and none of a shelf's counts fell
pub record HoldsAs {S : Type 0} (told_of : S → Option Told) (history_of : S → History) (faults_of misses_of : S → ℕ) (s s' : S) : Type 0 where
  pub held : held_of (told_of s') ≡ held_of (told_of s)
  pub commits : (history_of s').commits ≡ (history_of s).commits
  pub faults : faults_of s ≤ faults_of s'
  pub misses : misses_of s ≤ misses_of s'
