-- A game may start by the rules of an accepted section.
use Rattle.std.proofs.Common.{◌≡◌, ℕ, true, List, Option, Some, None, Result, Ok, Err, refl, sym, ap, subst, ◌∙◌}
use Rattle.std.specs.Result.{IfOk}
use Rattle.rules_model.specs.declared.board.Position.{Position}
use Rattle.rules_model.specs.declared.rules.Rules.{Rules}
use Rattle.rules_model.specs.Fit.{IsFit}
use Rattle.rules_model.specs.Sound.{is_sound}
use Rattle.fen_model.specs.declared.fault.FenFault.{FenFault}
use Rattle.fen_model.specs.Reading.{fen_of}
use Rattle.fen_model.proofs.SoundLaws.{text_sound}
use Rattle.variant_ini.specs.Section.{Section}
use Rattle.variant_model.specs.declared.fault.SectionFault.{SectionFault}
use Rattle.variant_model.specs.Entry as section
use Rattle.variant_model.specs.Made.{no_position, resolved, start_text}
use Rattle.variant_model.proofs.EntryLaws.{entry_by_fault}
use Rattle.variant_rules.proofs.FitLaws.{accepted_fits, faultless_fits}
use Rattle.variant_rules.proofs.StartLaws.{sound_at_any_start}
use Rattle.variant_rules.specs.Playable.{IsPlayable}

-- the rules of an answer, or else these
abbrev rules_in : Rules → Result Rules SectionFault → Rules
rules_in other (Ok rules) = rules
rules_in other (Err fault) = other

abbrev HasSoundStart : Rules → Type 0
HasSoundStart rules = is_sound rules rules.start ≡ true

start_read : (bare : Rules) (text : List ℕ) (read : Result Position FenFault) (rules : Rules) → IsFit bare → fen_of bare text ≡ read → section.started_by bare read ≡ Ok rules → HasSoundStart rules
start_read bare text (Ok start) rules fit said made =
    let same : record bare { start = start } ≡ rules = ap (rules_in bare) made in
    subst HasSoundStart same (sound_at_any_start bare start start ∙ text_sound bare text start fit said)
start_read bare text (Err fault) rules fit said made = absurd (cc)

module _ (sections : List Section) (place : ℕ) (rules : Rules) (accepted : section.entry sections place ≡ Ok rules) where
  start_sound : (fault : Option SectionFault) → section.first_fault sections place (section.is_refused sections) ≡ fault → HasSoundStart rules
  start_sound (Some fault) e =
      let refused : Ok rules ≡ Err fault = sym accepted ∙ entry_by_fault sections place (Some fault) e in
      absurd (cc)
  start_sound None e =
      start_read (section.bare_rules (resolved sections place)) (start_text (resolved sections place))
      (fen_of (section.bare_rules (resolved sections place)) (start_text (resolved sections place))) rules
      (faultless_fits sections place no_position e) refl
      (sym (entry_by_fault sections place None e) ∙ accepted)

  pub accepted_playable : IsPlayable rules
  accepted_playable = record {
    fit = accepted_fits sections place rules accepted;
    start = start_sound (section.first_fault sections place (section.is_refused sections)) refl;
  }

-- an entry of a section, however it is made
pub entry_playable : (sections : List Section) (place : ℕ) (made : Result Rules SectionFault) → made ≡ section.entry sections place → IfOk made IsPlayable
entry_playable sections place (Ok rules) e = accepted_playable sections place rules (sym e)
entry_playable sections place (Err fault) e = tt
