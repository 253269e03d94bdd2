-- What a steady shelf tells.
use Rattle.std.specs.Prelude.{◌≡◌, refl, ℕ, map, Option, Some, None, option_map, is_some}
use Rattle.bl_shelf.specs.Told.{Told}
use Rattle.bl_shelf.specs.History.{History}
use Rattle.bl_shelf.specs.NamedBytes.{held_in, staged_of}
use Rattle.bl_shelf.specs.declared.steady.SteadyShelf.{SteadyShelf}

-- the files that it holds, and the one that is staged
abbrev pub steady_contents : SteadyShelf → Told
steady_contents s = record { held = held_in s.files.items; staged = option_map staged_of s.staged }

-- how many bytes may still be pushed
abbrev pub steady_room : SteadyShelf → Option ℕ
steady_room s = option_map (λ _. s.room) s.staged

-- two views of an option are there together
same_presence : {A B C : Type 0} (f : A → B) (g : A → C) (o : Option A) → is_some (option_map f o) ≡ is_some (option_map g o)
same_presence f g None = refl
same_presence f g (Some _) = refl

-- a file is staged exactly where there is room
pub steady_room-staged : (s : SteadyShelf) → is_some (steady_contents s).staged ≡ is_some (steady_room s)
steady_room-staged s = same_presence staged_of (λ _. s.room) s.staged

-- how often a file wasn't there
abbrev pub steady_misses : SteadyShelf → ℕ
steady_misses s = s.misses

-- the names under which files were staged, and how many commits there were
abbrev pub steady_history : SteadyShelf → History
steady_history s = record { staged = map (λ name. name.items) s.names.items; commits = s.commits }
