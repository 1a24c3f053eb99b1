-- What workers hand back.
use Rattle.std.specs.Prelude.{◌≡◌, ℕ, List, [], length, Option, Some, slice_get}
use Rattle.std.specs.List.{All}
use Rattle.suite.specs.declared.problem.Answer.{Answer}
use Rattle.suite.specs.declared.problem.Problem.{Problem}
use Rattle.suite.specs.declared.work.Found.{Found}
use Rattle.suite.specs.declared.work.Job.{Job}
use Rattle.suite.specs.Answers.{IsAnswer}

-- the answer is that to the problem at the place
abbrev pub IsAnswerAt : List Problem → ℕ → Answer → Type 0
IsAnswerAt ps at a = (p : Problem) → slice_get ps at ≡ Some p → IsAnswer p a

-- it is the answer to the problem at its place
pub record IsFound (ps : List Problem) (f : Found) : Type 0 where
  pub answer : IsAnswerAt ps f.at f.answer

abbrev pub AreFound : List Problem → List Found → Type 0
AreFound ps fs = All (IsFound ps) fs

-- it has found nothing yet
abbrev pub HasNone : Job → Type 0
HasNone job = job.found.items ≡ []

-- what a worker found is right
pub record HasFound (ps : List Problem) (job : Job) : Type 0 where
  pub found : AreFound ps job.found.items

-- what all of them found is right
pub record HaveFound (ps : List Problem) (jobs : List Job) : Type 0 where
  pub each : All (HasFound ps) jobs

-- there is a place for each answer, and an answer at a place is that to the problem there
pub record AreSlots (ps : List Problem) (slots : List (Option Answer)) : Type 0 where
  pub count : length slots ≡ length ps
  pub each : (at : ℕ) (a : Answer) → slice_get slots at ≡ Some (Some a) → IsAnswerAt ps at a
