-- What the checks of inputs say of them: where none gives an ending they are held and accepted; an ending has its cause in
-- one; and what is accepted passes them.
use Rattle.std.proofs.Common.{◌≡◌, ◌≢◌, ◌⊎◌, ◌<◌, ◌≤◌, ◌+◌, ℕ, List, [], ◌∷◌, ◌++◌, length, Bool, true, false, cond, Option, Some, None, Ok, refl, sym, ap, subst, ◌∙◌, inl, inr, arith}
use Rattle.std.specs.Prelude.{option_map, unwrap_or, nat_lt, IfErr, IsOk}
use Rattle.std.specs.FinMap.{get}
use Rattle.bl_format.specs.Limits.{most_blocks, most_input_bytes}
use Rattle.bl_format.specs.Nodes.{Accepted}
use Rattle.bl_commands.specs.declared.ending.Ending.{Ending}
use Rattle.bl_commands.specs.declared.ending.Ending.TheVariants as endings
use Rattle.bl_commands.specs.Checks.{first_ending}
use Rattle.bl_shelf.specs.Told.{Held}
use Rattle.bl_file.specs.declared.fault.OpenFault.{OpenFault}
use Rattle.bl_file.specs.declared.fault.OpenFault.TheVariants as opens
use Rattle.bl_file.specs.Opening.{file_in, format_fault, open_fault}
use Rattle.bl_file.specs.Refusals.{HasOpenFault}
use Rattle.bl_file.proofs.AcceptedPasses.{accepted_opens, opens_few}
use Rattle.bl_file.proofs.Checks.{passes-accepted}
use Rattle.bl_file.proofs.RefusalLaws.{open_refused}
use Rattle.bl_run.specs.Blame.{BlamesRisen, IsEndingOf, MayMiss}
use Rattle.bl_run.specs.Input.{open_ending, bytes_held, opening_check, input_checks, two_input_checks, IsChecked, IsReadable, AreReadable, HasInputCause}
use Rattle.bl_run.specs.Meaning.{Effect, IsOwnEnding, unless_ending}
use Rattle.bl_run.proofs.Opens.{IsOfFault, of_fault}

-- ---- the first of some checks

pub first_of_one : (a : Option Ending) → first_ending (a ∷ []) ≡ a
first_of_one None = refl
first_of_one (Some e) = refl

-- the first of two is one of them
pub first_of_two : (a b : Option Ending) (e : Ending) → first_ending (a ∷ b ∷ []) ≡ Some e → (a ≡ Some e) ⊎ (b ≡ Some e)
first_of_two (Some x) b e is = inl is
first_of_two None b e is = inr (sym (first_of_one b) ∙ is)

-- where the first of two gives none, neither does
pub none_of_two : (a b : Option Ending) → first_ending (a ∷ b ∷ []) ≡ None → (a ≡ None) × (b ≡ None)
none_of_two (Some x) b is = absurd (cc)
none_of_two None b is = (refl, sym (first_of_one b) ∙ is)

pub two_pass : (a b : Option Ending) → a ≡ None → b ≡ None → first_ending (a ∷ b ∷ []) ≡ None
two_pass a b first second = rw (first, second) refl

-- the first of some checks and more is that of some, or else that of the others
pub first_split : (xs ys : List (Option Ending)) (e : Ending) → first_ending (xs ++ ys) ≡ Some e
    → (first_ending xs ≡ Some e) ⊎ ((first_ending xs ≡ None) × (first_ending ys ≡ Some e))
first_split [] ys e is = inr (refl, is)
first_split (None ∷ xs) ys e is = first_split xs ys e is
first_split (Some u ∷ xs) ys e is = inl is

pub none_split : (xs ys : List (Option Ending)) → first_ending (xs ++ ys) ≡ None → (first_ending xs ≡ None) × (first_ending ys ≡ None)
none_split [] ys is = (refl, is)
none_split (None ∷ xs) ys is = none_split xs ys is
none_split (Some u ∷ xs) ys is = absurd (cc)

pub split_some : (xs ys : List (Option Ending)) (e : Ending) → first_ending xs ≡ Some e → first_ending (xs ++ ys) ≡ Some e
split_some [] ys e is = absurd (cc)
split_some (None ∷ xs) ys e is = split_some xs ys e is
split_some (Some u ∷ xs) ys e is = is

pub split_none : (xs ys : List (Option Ending)) → first_ending xs ≡ None → first_ending (xs ++ ys) ≡ first_ending ys
split_none [] ys is = refl
split_none (None ∷ xs) ys is = split_none xs ys is
split_none (Some u ∷ xs) ys is = absurd (cc)

-- ---- where no check gives an ending

-- where the check of an input passes, opening it has no fault
no_fault : (o : Option OpenFault) (input : List ℕ) → option_map (open_ending input) o ≡ None → o ≡ None
no_fault None input passes = refl
no_fault (Some fault) input passes = cc

small_passes : (large : Bool) (fault : OpenFault) (o : Option OpenFault) → cond large (Some fault) o ≡ None → o ≡ None
small_passes true fault o is = cc
small_passes false fault o is = is

-- an input that passes its check: it is held, and its bytes are accepted, within the limit on blocks
pub record IsPassed (held : Held) (input : List ℕ) : Type 0 where
  pub b : List ℕ
  pub is_held : get held input ≡ Some b
  pub bytes : bytes_held held input ≡ b
  pub accepted : Accepted b (file_in b)
  pub few : length (file_in b).nodes < most_blocks

passed_by : (used : ℕ) (held : Held) (input : List ℕ) (bytes : Option (List ℕ)) → get held input ≡ bytes → open_fault used bytes ≡ None → IsPassed held input
unfolding open_fault
passed_by used held input None is passes = cc
passed_by used held input (Some b) is passes = record {
  b = b;
  is_held = is;
  bytes = ap (λ (o : Option (List ℕ)). unwrap_or o []) is;
  accepted = passes-accepted b (small_passes (nat_lt most_input_bytes (used + length b)) (opens.TooLarge (used + length b)) (format_fault b) passes);
  few = opens_few used b passes;
}

pub opening_passed : (used : ℕ) (held : Held) (input : List ℕ) → opening_check used held input ≡ None → IsPassed held input
opening_passed used held input passes = passed_by used held input (get held input) refl (no_fault (open_fault used (get held input)) input passes)

pub input_passed : (held : Held) (input : List ℕ) → first_ending (input_checks held input) ≡ None → IsPassed held input
input_passed held input passes = opening_passed 0 held input (sym (first_of_one (opening_check 0 held input)) ∙ passes)

-- the same of what is held under the name
pub record IsRead (held : Held) (input : List ℕ) : Type 0 where
  pub is_held : get held input ≡ Some (bytes_held held input)
  pub accepted : Accepted (bytes_held held input) (file_in (bytes_held held input))
  pub few : length (file_in (bytes_held held input)).nodes < most_blocks

pub read_of : (held : Held) (input : List ℕ) → IsPassed held input → IsRead held input
read_of held input passed = record {
  is_held = passed.is_held ∙ ap Some (sym passed.bytes);
  accepted = subst (λ (b : List ℕ). Accepted b (file_in b)) (sym passed.bytes) passed.accepted;
  few = subst (λ (b : List ℕ). length (file_in b).nodes < most_blocks) (sym passed.bytes) passed.few;
}

-- ---- what is accepted passes

-- an input that is held and accepted, and within the limits behind so many bytes, passes its check
pub readable_passes : (used : ℕ) (held : Held) (input : List ℕ) (is : IsReadable held input) → used + length is.b ≤ most_input_bytes → opening_check used held input ≡ None
readable_passes used held input is small =
    let passes : open_fault used (Some is.b) ≡ None = accepted_opens used is.b is.file small is.accepted.accepted is.accepted.few in
    rw (is.is_held, passes) refl

effect_is : (first : Option Ending) (effect : Effect) → first ≡ None → IsOk (unless_ending first effect)
effect_is first effect is = rw is refl

-- so a command on it has an effect
pub input_able : (held : Held) (input : List ℕ) (effect : Effect) → IsReadable held input → IsOk (unless_ending (first_ending (input_checks held input)) effect)
input_able held input effect can =
    effect_is (first_ending (input_checks held input)) effect (first_of_one (opening_check 0 held input) ∙ readable_passes 0 held input can (omega (arith, can.small)))

-- and one on two
pub two_able : (held : Held) (input other : List ℕ) (effect : Effect) → AreReadable held input other → IsOk (unless_ending (first_ending (two_input_checks held input other)) effect)
two_able held input other effect can =
    let used : length (bytes_held held input) ≡ length can.first.b = ap (λ (o : Option (List ℕ)). length (unwrap_or o [])) can.first.is_held in
    effect_is (first_ending (two_input_checks held input other)) effect
    (two_pass (opening_check 0 held input) (opening_check (length (bytes_held held input)) held other)
    (readable_passes 0 held input can.first (omega (arith, can.first.small)))
    (readable_passes (length (bytes_held held input)) held other can.second (omega (arith, used, can.small))))

-- ---- an ending has its cause

-- an outcome by some checks is such, where what the first of them gives is such
pub ended_by : (first : Option Ending) (effect : Effect) (Such : Ending → Type 0) → ((e : Ending) → first ≡ Some e → Such e) → IfErr (unless_ending first effect) Such
ended_by (Some e) effect Such so = so e refl
ended_by None effect Such so = tt

-- the fault of a file that isn't held is that; one that is held has the fault
fault_caused : (used : ℕ) (held : Held) (input : List ℕ) (bytes : Option (List ℕ)) (fault : OpenFault) (e : Ending)
    → get held input ≡ bytes → open_fault used bytes ≡ Some fault → e ≡ open_ending input fault → HasInputCause used held input e
unfolding open_fault
fault_caused used held input None fault e is found gives = let same : opens.Absent ≡ fault = cc in inl (is, gives ∙ ap (open_ending input) (sym same))
fault_caused used held input (Some b) fault e is found gives = inr (record { b = b; is_held = is; fault = fault; has = open_refused used b fault found; gives = gives })

pub check_caused : (used : ℕ) (held : Held) (input : List ℕ) (e : Ending) → opening_check used held input ≡ Some e → HasInputCause used held input e
check_caused used held input e is = by_fault (open_fault used (get held input)) refl is
  where
    by_fault : (o : Option OpenFault) → open_fault used (get held input) ≡ o → option_map (open_ending input) o ≡ Some e → HasInputCause used held input e
    by_fault None found is = cc
    by_fault (Some fault) found is = let gives : e ≡ open_ending input fault = cc in fault_caused used held input (get held input) fault e refl found gives

-- an outcome by the checks of an input has its cause in that
pub input_caused : (held : Held) (input : List ℕ) (effect : Effect) → IfErr (unless_ending (first_ending (input_checks held input)) effect) (HasInputCause 0 held input)
input_caused held input effect =
    ended_by (first_ending (input_checks held input)) effect (HasInputCause 0 held input)
    (λ e is. check_caused 0 held input e (sym (first_of_one (opening_check 0 held input)) ∙ is))

-- the ending of the checks of two has its cause in one of them
pub two_check_caused : (held : Held) (input other : List ℕ) (e : Ending) → first_ending (two_input_checks held input other) ≡ Some e
    → HasInputCause 0 held input e ⊎ HasInputCause (length (bytes_held held input)) held other e
two_check_caused held input other e is = by_check (first_of_two (opening_check 0 held input) (opening_check used held other) e is)
  where
    used : ℕ
    used = length (bytes_held held input)

    by_check : (opening_check 0 held input ≡ Some e) ⊎ (opening_check used held other ≡ Some e) → HasInputCause 0 held input e ⊎ HasInputCause used held other e
    by_check (inl is) = inl (check_caused 0 held input e is)
    by_check (inr is) = inr (check_caused used held other e is)

-- so has an outcome by them
pub two_caused : (held : Held) (input other : List ℕ) (effect : Effect)
    → IfErr (unless_ending (first_ending (two_input_checks held input other)) effect) (λ e. HasInputCause 0 held input e ⊎ HasInputCause (length (bytes_held held input)) held other e)
two_caused held input other effect =
    ended_by (first_ending (two_input_checks held input other)) effect
    (λ e. HasInputCause 0 held input e ⊎ HasInputCause (length (bytes_held held input)) held other e) (two_check_caused held input other)

-- ---- an outcome by the checks of inputs is the command's own ending

own_of : (file : List ℕ) (fault : OpenFault) (e : Ending) → IsOfFault file fault e → fault ≢ opens.Device → IsOwnEnding (λ name. name ≡ file) e
own_of file fault endings.NoCommand is device = absurd is
own_of file fault endings.NoMemory is device = tt
own_of file fault (endings.Absent name) is device = is.0
own_of file fault endings.Device is device = absurd (device is)
own_of file fault (endings.BadFile name why) is device = tt
own_of file fault (endings.Missing lack) is device = tt
own_of file fault (endings.FloatCast owner member) is device = tt
own_of file fault (endings.PastLimit quantity count) is device = tt
own_of file fault endings.Sink is device = absurd is

-- no file's bytes have a fault of a device
no_device : (used : ℕ) (bytes : Option (List ℕ)) (fault : OpenFault) → open_fault used bytes ≡ Some fault → fault ≢ opens.Device
unfolding open_fault
no_device used None fault is = let same : opens.Absent ≡ fault = cc in λ device. cc
no_device used (Some b) fault is = λ device. absurd (subst (HasOpenFault used b) device (open_refused used b fault is))

pub check_own : (used : ℕ) (held : Held) (input : List ℕ) (e : Ending) → opening_check used held input ≡ Some e → IsOwnEnding (λ name. name ≡ input) e
check_own used held input e is = by_fault (open_fault used (get held input)) refl is
  where
    by_fault : (o : Option OpenFault) → open_fault used (get held input) ≡ o → option_map (open_ending input) o ≡ Some e → IsOwnEnding (λ name. name ≡ input) e
    by_fault None found is = cc
    by_fault (Some fault) found is =
        let gives : open_ending input fault ≡ e = cc in
        subst (IsOwnEnding (λ name. name ≡ input)) gives (own_of input fault (open_ending input fault) (of_fault input fault) (no_device used (get held input) fault found))

pub input_own : (held : Held) (input : List ℕ) (effect : Effect) → IfErr (unless_ending (first_ending (input_checks held input)) effect) (IsOwnEnding (λ name. name ≡ input))
input_own held input effect =
    ended_by (first_ending (input_checks held input)) effect (IsOwnEnding (λ name. name ≡ input))
    (λ e is. check_own 0 held input e (sym (first_of_one (opening_check 0 held input)) ∙ is))

-- of a command that may miss more
pub own_wider : (P Q : List ℕ → Type 0) → ((file : List ℕ) → P file → Q file) → (e : Ending) → IsOwnEnding P e → IsOwnEnding Q e
own_wider P Q wider endings.NoCommand is = tt
own_wider P Q wider endings.NoMemory is = tt
own_wider P Q wider (endings.Absent file) is = wider file is
own_wider P Q wider endings.Device is = absurd is
own_wider P Q wider (endings.BadFile file fault) is = tt
own_wider P Q wider (endings.Missing lack) is = tt
own_wider P Q wider (endings.FloatCast owner member) is = tt
own_wider P Q wider (endings.PastLimit quantity count) is = tt
own_wider P Q wider endings.Sink is = absurd is

pub two_check_own : (held : Held) (input other : List ℕ) (e : Ending) → first_ending (two_input_checks held input other) ≡ Some e
    → IsOwnEnding (λ name. (name ≡ input) ⊎ (name ≡ other)) e
two_check_own held input other e is = by_check (first_of_two (opening_check 0 held input) (opening_check used held other) e is)
  where
    used : ℕ
    used = length (bytes_held held input)

    IsEither : List ℕ → Type 0
    IsEither name = (name ≡ input) ⊎ (name ≡ other)

    by_check : (opening_check 0 held input ≡ Some e) ⊎ (opening_check used held other ≡ Some e) → IsOwnEnding IsEither e
    by_check (inl is) = own_wider (λ name. name ≡ input) IsEither (λ name same. inl same) e (check_own 0 held input e is)
    by_check (inr is) = own_wider (λ name. name ≡ other) IsEither (λ name same. inr same) e (check_own used held other e is)

pub two_own : (held : Held) (input other : List ℕ) (effect : Effect)
    → IfErr (unless_ending (first_ending (two_input_checks held input other)) effect) (IsOwnEnding (λ name. (name ≡ input) ⊎ (name ≡ other)))
two_own held input other effect =
    ended_by (first_ending (two_input_checks held input other)) effect (IsOwnEnding (λ name. (name ≡ input) ⊎ (name ≡ other))) (two_check_own held input other)

-- ---- how a command's checks end it

-- an ending that is that of a check is that of what gives the same
pub checked_by : (first first' : Option Ending) (e : Ending) → (first ≡ Some e → first' ≡ Some e) → IsChecked first e → IsChecked first' e
checked_by first first' endings.NoCommand same is = same is
checked_by first first' endings.NoMemory same is = tt
checked_by first first' (endings.Absent file) same is = same is
checked_by first first' endings.Device same is = tt
checked_by first first' (endings.BadFile file fault) same is = same is
checked_by first first' (endings.Missing lack) same is = same is
checked_by first first' (endings.FloatCast owner member) same is = same is
checked_by first first' (endings.PastLimit quantity count) same is = same is
checked_by first first' endings.Sink same is = same is

-- an ending that a check gives is that of the outcome; it doesn't blame a sink
pub checked_ends : (first : Option Ending) (effect : Effect) (e : Ending) (m m' f f' : ℕ) → BlamesRisen e m m' f f' 0 0 → IsChecked first e → IsEndingOf (unless_ending first effect) e
checked_ends first effect endings.NoCommand m m' f f' blames is = rw is refl
checked_ends first effect endings.NoMemory m m' f f' blames is = tt
checked_ends first effect (endings.Absent file) m m' f f' blames is = rw is refl
checked_ends first effect endings.Device m m' f f' blames is = tt
checked_ends first effect (endings.BadFile file fault) m m' f f' blames is = rw is refl
checked_ends first effect (endings.Missing lack) m m' f f' blames is = rw is refl
checked_ends first effect (endings.FloatCast owner member) m m' f f' blames is = rw is refl
checked_ends first effect (endings.PastLimit quantity count) m m' f f' blames is = rw is refl
checked_ends first effect endings.Sink m m' f f' blames is = absurd (omega (arith, blames))

module _ (effect : Effect) (e : Ending) (m m' f f' : ℕ) (blames : BlamesRisen e m m' f f' 0 0) where
  -- so where there is one check
  pub one_ends : (a : Option Ending) → IsChecked a e → IsEndingOf (unless_ending (first_ending (a ∷ [])) effect) e
  one_ends a is = checked_ends (first_ending (a ∷ [])) effect e m m' f f' blames (checked_by a (first_ending (a ∷ [])) e (λ found. rw found refl) is)

  -- where it is the first of two
  pub first_ends : (a b : Option Ending) → IsChecked a e → IsEndingOf (unless_ending (first_ending (a ∷ b ∷ [])) effect) e
  first_ends a b is = checked_ends (first_ending (a ∷ b ∷ [])) effect e m m' f f' blames (checked_by a (first_ending (a ∷ b ∷ [])) e (λ found. rw found refl) is)

  -- and where it is the second, and the first gives none
  pub second_ends : (a b : Option Ending) → a ≡ None → IsChecked b e → IsEndingOf (unless_ending (first_ending (a ∷ b ∷ [])) effect) e
  second_ends a b none is = checked_ends (first_ending (a ∷ b ∷ [])) effect e m m' f f' blames (checked_by b (first_ending (a ∷ b ∷ [])) e (λ found. rw (none, found) refl) is)

-- a command that may miss more misses what is missed
pub misses_wider : (P Q : List ℕ → Type 0) → ((file : List ℕ) → P file → Q file) → (e : Ending) → MayMiss P e → MayMiss Q e
misses_wider P Q wider endings.NoCommand is = tt
misses_wider P Q wider endings.NoMemory is = tt
misses_wider P Q wider (endings.Absent file) is = wider file is
misses_wider P Q wider endings.Device is = tt
misses_wider P Q wider (endings.BadFile file fault) is = tt
misses_wider P Q wider (endings.Missing lack) is = tt
misses_wider P Q wider (endings.FloatCast owner member) is = tt
misses_wider P Q wider (endings.PastLimit quantity count) is = tt
misses_wider P Q wider endings.Sink is = tt

-- a command without an ending has its effect
pub takes_effect : (first : Option Ending) (effect : Effect) → first ≡ None → unless_ending first effect ≡ Ok effect
takes_effect (Some e) effect is = cc
takes_effect None effect is = refl
