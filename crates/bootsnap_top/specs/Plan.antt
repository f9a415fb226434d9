-- What the words ask for: `run [--cache on|off] [--instrument] FILE`. Words are counted from 1.
use Rattle.std.specs.Prelude.{ℕ, ◌+◌, ◌==◌, Bool, true, false, cond, Option, None, Some, is_some, unwrap_or, Result, Ok, Err, List, [], ◌∷◌, codes}
use Rattle.std.specs.Option.{option_map}
use Rattle.bs_outside.specs.Paths.{same_bytes, normal_of}
use Rattle.compile_cache.specs.declared.mode.CacheUse.{CacheUse}
use Rattle.compile_cache.specs.declared.mode.CacheUse.TheVariants.{On, Off}
use Rattle.compile_cache.specs.declared.mode.Mode.{Mode}
use Rattle.bootsnap_top.specs.declared.planning.Options.{Options}
use Rattle.bootsnap_top.specs.declared.planning.Planned.{Planned}
use Rattle.bootsnap_top.specs.declared.planning.Planned.TheVariants as planned

-- begins with `-`
abbrev pub begins_with_dash : List ℕ → Bool
begins_with_dash [] = false
begins_with_dash (byte ∷ bytes) = byte == 45

abbrev pub is_cache_option : List ℕ → Bool
is_cache_option word = same_bytes word (codes "--cache")

abbrev pub is_instrument_option : List ℕ → Bool
is_instrument_option word = same_bytes word (codes "--instrument")

-- the value `on` or `off`
abbrev pub cache_use_of : List ℕ → Option CacheUse
cache_use_of word = cond (same_bytes word (codes "on")) (Some On) (cond (same_bytes word (codes "off")) (Some Off) None)

-- before the first option
abbrev pub no_options : Options
no_options = record { cache = None; instrument = false }

abbrev pub unless_named : Bool → Options → Option Options
unless_named named options = cond named None (Some options)

-- The options with the one that a word names; or nothing, where it names none or one that was named before. The value of `--cache` is still to come.
abbrev pub with_option : Options → List ℕ → Option Options
with_option options word =
    cond (is_cache_option word) (unless_named (is_some options.cache) options)
    (cond (is_instrument_option word) (unless_named options.instrument (record options { instrument = true })) None)

-- The options with the value of `--cache`; or nothing, where the word is neither `on` nor `off`.
abbrev pub with_value : Options → List ℕ → Option Options
with_value options word = option_map (λ cache_use. record options { cache = Some cache_use }) (cache_use_of word)

-- the run of a file: where `--cache` was not named, the cache is on
abbrev pub run_with : Options → List ℕ → Planned
run_with options file = planned.Run (record { cache = unwrap_or options.cache On }) options.instrument file

-- FILE at a place: it names something, and no word follows it
abbrev pub plan_at_file : ℕ → Options → Option (List ℕ) → List (List ℕ) → Result Planned ℕ
plan_at_file place options None behind = Err place
plan_at_file place options (Some file) [] = Ok (run_with options file)
plan_at_file place options (Some file) (word ∷ behind) = Err (place + 1)

-- what follows a word at a place, if the word is good
abbrev pub if_good : ℕ → Option Options → (Options → Result Planned ℕ) → Result Planned ℕ
if_good place None following = Err place
if_good place (Some options) following = following options

-- The words from a place on, behind these options. The word behind `--cache` is its value, whatever it begins with. Each other word that begins with
-- `-` names an option. FILE is the first word that does neither. Where no word is left, the missing one is bad.
abbrev pub plan_from : ℕ → Bool → Options → List (List ℕ) → Result Planned ℕ
plan_from place value_is_due options [] = Err place
plan_from place value_is_due options (word ∷ words) =
    cond value_is_due (if_good place (with_value options word) (λ more. plan_from (place + 1) false more words))
    (cond (begins_with_dash word) (if_good place (with_option options word) (λ more. plan_from (place + 1) (is_cache_option word) more words))
    (plan_at_file place options (normal_of (47 ∷ []) word) words))

-- What the words ask for, or the place of the first bad word, counted from 1; a missing word stands behind the last.
abbrev pub plan_of : List (List ℕ) → Result Planned ℕ
plan_of [] = Err 1
plan_of (word ∷ words) = cond (same_bytes word (codes "run")) (plan_from 2 false no_options words) (Err 1)

-- the parts of what is planned: how, with which notes, and which file
abbrev pub mode_of : Planned → Mode
mode_of (planned.Run mode instrument path) = mode

abbrev pub instrument_of : Planned → Bool
instrument_of (planned.Run mode instrument path) = instrument

abbrev pub path_of : Planned → List ℕ
path_of (planned.Run mode instrument path) = path
