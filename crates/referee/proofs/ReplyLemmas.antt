-- What the referee answers is what the program does.
use Rattle.std.proofs.Common.{◌≡◌, ◌+◌, ◌-◌, ◌^◌, ◌≤◌, ℕ, List, min, refl, sym, subst, arith, Option, Some, Ok, Err, IfOk}
use Rattle.std.specs.Prelude.{IsSomeAnd, false}
use Rattle.std.specs.declared.result.Result.{Result}
use Rattle.io_ports.specs.Files.{Contents, Finds, Read}
use Rattle.io_ports.specs.Lines.{Line, lines_of}
use Rattle.io_ports.specs.Trace.{Reads, faults_in}
use Rattle.game_text.specs.HeardLines.{HeardLines}
use Rattle.variant_rules.specs.Looked.{Looked}
use Rattle.one_shot_checks.specs.declared.no_answer.NoAnswer.{NoAnswer}
use Rattle.one_shot_checks.specs.declared.stop.Stop.{Stop}
use Rattle.one_shots.specs.declared.answers.Answer.{Answer}
use Rattle.one_shots.specs.declared.opening.Opened.{Opened}
use Rattle.one_shots.specs.Commands.{is_refereed}
use Rattle.one_shots.specs.Looked.{TellsReads}
use Rattle.one_shots.specs.OpeningView.{Opens}
use Rattle.one_shots.specs.OutcomeView.{OutcomeOf}
use Rattle.one_shots.specs.Sessions.{to_do}
use Rattle.one_shots.specs.Variants.{AreFirstReads}
use Rattle.one_shots.proofs.HeardLemmas.{settle}
use Rattle.one_shots.proofs.OpeningLemmas.{loaded_says, refused_first, refused_says}
use Rattle.one_shots.proofs.ShotLemmas.{says_shot}
use Rattle.words.specs.Asked.{Asked}
use Rattle.words.specs.Options.{Text}
use Rattle.words.specs.View.{asked_seen}
use Rattle.referee.specs.declared.answering.Reply.{Reply}
use Rattle.referee.specs.declared.answering.Reply.TheVariants.{Said, NotRefereed}
use Rattle.referee.specs.Refereed.{Refereed, all_have}
use Rattle.referee.specs.Replies.{IsSaid, Replies, RepliesTo}

-- what holds of the lines that were heard, and of any after them, holds of those of the input
pub input_says : (input : List ℕ) (left : Option (List ℕ)) (needed : List Line → ℕ) (P : List Line → Type 0) → HeardLines (Some input) left needed P → P (lines_of input)
input_says input left needed P heard =
    let settled = settle (Some input) left needed P heard in
    subst P (sym settled.input) settled.holds

-- what holds of an answer holds of its reply
pub said_so : {E : Type 0} (r : Result Answer Stop) (reply : Result Reply E) (P : Answer → Type 0) (Q : Reply → Type 0) → ((answer : Answer) → P answer → Q (Said answer)) → IfOk r P → IsSaid r reply → IfOk reply Q
said_so (Ok answer) (Ok reply) P Q so holds is = rw is (so answer holds)
said_so (Err why) (Ok reply) P Q so holds is = absurd is
said_so r (Err why) P Q so holds is = tt

-- ---- files that never fail

never_rose : (n : ℕ) → min (0 + n) (2 ^ 64 - 1) ≤ 0 → n ≡ 0
never_rose n rose = grind arith

pub tells_reads : {F : Type 0} (contents : F → Option Contents) (file : Option (List ℕ)) (files files' : F) → contents files ≡ Some (all_have file)
    → (reads : List Read) → Reads contents (λ files. 0) files files' reads → TellsReads (Some (all_have file)) reads
tells_reads contents file files files' is reads asks =
    (subst (λ (x : Option Contents). Finds x reads) is asks.found, never_rose (faults_in reads) asks.failed.rose)

-- ---- the replies

-- what was read of these words was read of those that they are
pub of_words : (asks : List Read → Type 0) (given words : List Text) (answer : Result Opened NoAnswer) → given ≡ words → Looked asks (λ reads. Opens (to_do given) reads answer)
    → Looked asks (λ reads. Opens (to_do words) reads answer)
of_words asks given words answer are looked = subst (λ (ws : List Text). Looked asks (λ reads. Opens (to_do ws) reads answer)) are looked

-- where the words were read, and the file
pub opened_replies : (words : List Text) (file : Option (List ℕ)) (input : List ℕ) (asks : List Read → Type 0) (o : Opened) (reply : Reply)
    → ((reads : List Read) → asks reads → TellsReads (Some (all_have file)) reads) → Looked asks (λ reads. Opens (to_do words) reads (Ok o)) → RepliesTo o input reply → Replies words file input reply
opened_replies words file input asks o (Said answer) told looked says =
    let (is, accepted, are) = looked.holds in
    let here = rw are at says in
    record {
      reads = looked.reads;
      told = told looked.reads looked.asks;
      shot = says_shot words looked.reads (lines_of input) answer.status answer.text
          (subst (λ (x : Option Asked). AreFirstReads x looked.reads) (sym is) accepted.0)
          (loaded_says (to_do words) (asked_seen o.asked) looked.reads is accepted.1 (lines_of input) answer.status answer.text here);
    }
opened_replies words file input asks o NotRefereed told looked is =
    subst (λ (x : Option Asked). IsSomeAnd x (λ a. is_refereed a.command ≡ false)) (sym looked.holds.0) is

-- where they were not
pub refused_replies : (words : List Text) (file : Option (List ℕ)) (input : List ℕ) (asks : List Read → Type 0) (why : NoAnswer) (r : Result Answer Stop)
    → ((reads : List Read) → asks reads → TellsReads (Some (all_have file)) reads) → Looked asks (λ reads. Opens (to_do words) reads (Err why)) → OutcomeOf (Err why) r
    → IfOk r (λ answer. Refereed words file input answer.status answer.text)
refused_replies words file input asks why (Err cut) told looked is = tt
refused_replies words file input asks why (Ok answer) told looked is = record {
  reads = looked.reads;
  told = told looked.reads looked.asks;
  shot = says_shot words looked.reads (lines_of input) answer.status answer.text
      (refused_first (to_do words) looked.reads why (Ok answer) answer looked.holds is refl)
      (refused_says (to_do words) looked.reads why (Ok answer) (lines_of input) looked.holds is);
}
