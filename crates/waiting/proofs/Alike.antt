-- A state that shows the same as the one a step leads to: the step leads to it too. Assumes nothing.
--   Alike s s'       s' shows what s does: marks, numbers, what is awaited, asked and answered, cursors, and what was passed
--   step-alike       a step to s' is one to every state alike
use mathlib.Core.Path.{◌∙◌, subst⁻¹}
use Prim.Native.Nat.{ℕ, ◌≤◌, ◌<◌}
use Rattle.waiting.specs.State.{State}
use Rattle.waiting.specs.Steps.{Same, But, Stays, Passes, Skips, Faded, leads, behind, Fades, Claims, Opens, Awaits, Workers, TakenMark, taken, CompletedMark, Step}
use Rattle.waiting.specs.Steps as S

pub record Alike (s s' : State) : Type 0 where
  pub claims : Claims s s'
  pub workers : Workers s s'
  pub literals : Stays s s'

then : {f g h : ℕ → ℕ} → Same f g → Same g h → Same f h
then p q k = q k ∙ p k

but : {b : ℕ} {f g h : ℕ → ℕ} → But b f g → Same g h → But b f h
but p q k n = q k ∙ p k n

module _ {s s' s'' : State} (a : Alike s' s'') where
  claims : Claims s s' → Claims s s''
  claims c =
      record { marks = then c.marks a.claims.marks; opened = a.claims.opened ∙ c.opened; numbers = then c.numbers a.claims.numbers }

  workers : Workers s s' → Workers s s''
  workers c =
      record { awaits = then c.awaits a.workers.awaits; asks = then c.asks a.workers.asks; answers = then c.answers a.workers.answers }

  stays : Stays s s' → Stays s s''
  stays c =
      record {
        more = λ p. c.more (a.literals.more p);
        less = λ p. a.literals.less (c.less p);
        earlier = λ p. c.earlier (a.literals.earlier p);
        nexts = then c.nexts a.literals.nexts;
        cursors = then c.cursors a.literals.cursors;
      }

  passes : {c b : ℕ} → Passes s s' c b → Passes s s'' c b
  passes {c} p =
      record {
        more = λ q. p.more (a.literals.more q);
        less = λ q. a.literals.less (p.less q);
        earlier = λ q. p.earlier (a.literals.earlier q);
        nexts = but p.nexts a.literals.nexts;
        cursor = a.literals.cursors c ∙ p.cursor;
        cursors = but p.cursors a.literals.cursors;
      }

  skips : {c : ℕ} → Skips s s' c → Skips s s'' c
  skips {c} p =
      record {
        more = λ q. p.more (a.literals.more q);
        less = λ q. a.literals.less (p.less q);
        earlier = λ q. p.earlier (a.literals.earlier q);
        nexts = but p.nexts a.literals.nexts;
        cursor = subst⁻¹ (λ (x : ℕ). s.cursor c < x) (a.literals.cursors c) p.cursor;
        cursors = but p.cursors a.literals.cursors;
      }

  faded : {x y : ℕ} → Faded s s' x y → Faded s s'' x y
  faded (leads p) = leads (a.literals.less p)
  faded (behind {z = z} e m d) = behind {z = z} e m (record { over = subst⁻¹ (λ (v : ℕ). 256 ≤ v) (a.claims.marks z) d.over })

  fades : Fades s s' → Fades s s''
  fades p =
      record {
        more = λ q. p.more (a.literals.more q);
        less = λ q. faded (p.less q);
        earlier = λ q. p.earlier (a.literals.earlier q);
        nexts = then p.nexts a.literals.nexts;
        cursors = then p.cursors a.literals.cursors;
      }

  opens : {w b : ℕ} → Opens s s' w b → Opens s s'' w b
  opens {b = b} p =
      record {
        fresh = p.fresh;
        mark = a.claims.marks b ∙ p.mark;
        marks = but p.marks a.claims.marks;
        opened = a.claims.opened ∙ p.opened;
        number = a.claims.numbers b ∙ p.number;
        numbers = but p.numbers a.claims.numbers;
      }

  awaits : {w b : ℕ} → Awaits s s' w b → Awaits s s'' w b
  awaits {w = w} p =
      record {
        await = a.workers.awaits w ∙ p.await;
        awaits = but p.awaits a.workers.awaits;
        asks = then p.asks a.workers.asks;
        answers = then p.answers a.workers.answers;
      }

  takes : {w c b x : ℕ} → TakenMark s s' w c b x → TakenMark s s'' w c b x
  takes {x = x} (taken p m n e) = taken p m n (a.claims.marks x ∙ e)
  takes {x = x} (TakenMark.kept f e) = TakenMark.kept f (a.claims.marks x ∙ e)

  completes : {n x : ℕ} → CompletedMark s s' n x → CompletedMark s s'' n x
  completes {x = x} (CompletedMark.completed p m) = CompletedMark.completed p (subst⁻¹ (λ (v : ℕ). 256 ≤ v) (a.claims.marks x) m)
  completes {x = x} (CompletedMark.kept f e) = CompletedMark.kept f (a.claims.marks x ∙ e)

  pub step-alike : {T w : ℕ} → Step T w s s' → Step T w s s''
  step-alike {w = w} (S.woke p) =
      S.woke
      (record {
        claim = p.claim;
        awaited = p.awaited;
        over = p.over;
        free = a.workers.awaits w ∙ p.free;
        awaits = but p.awaits a.workers.awaits;
        asks = then p.asks a.workers.asks;
        answers = then p.answers a.workers.answers;
        claims = claims p.claims;
        literals = stays p.literals;
      })
  step-alike {w = w} (S.answered p) =
      S.answered
      (record {
        at = p.at;
        over = p.over;
        answer = a.workers.answers w ∙ p.answer;
        answers = but p.answers a.workers.answers;
        asks = but p.asks a.workers.asks;
        awaits = then p.awaits a.workers.awaits;
        claims = claims p.claims;
        literals = stays p.literals;
      })
  step-alike (S.opened-asked p) =
      S.opened-asked (record { at = p.at; opens = opens p.opens; workers = workers p.workers; literals = stays p.literals })
  step-alike (S.waits_asked p) =
      S.waits_asked
      (record { at = p.at; holder = p.holder; held = p.held; claims = claims p.claims; awaits = awaits p.awaits; literals = stays p.literals })
  step-alike (S.completes p) =
      S.completes
      (record {
        at = p.at;
        all = λ q. p.all q;
        full = λ q. p.full q;
        marks = λ x. completes (p.marks x);
        opened = a.claims.opened ∙ p.opened;
        numbers = then p.numbers a.claims.numbers;
        workers = workers p.workers;
        literals = fades p.literals;
      })
  step-alike (S.passed p) =
      S.passed (record { at = p.at; to = p.to; claims = claims p.claims; workers = workers p.workers; literals = passes p.literals })
  step-alike (S.skipped p) = S.skipped (record { at = p.at; claims = claims p.claims; workers = workers p.workers; literals = skips p.literals })
  step-alike (S.opened p) =
      S.opened (record { at = p.at; opens = opens p.opens; workers = workers p.workers; literals = passes p.literals })
  step-alike (S.waits p) =
      S.waits
      (record {
        at = p.at;
        holder = p.holder;
        held = p.held;
        other = p.other;
        misses = p.misses;
        claims = claims p.claims;
        awaits = awaits p.awaits;
        literals = passes p.literals;
      })
  step-alike (S.took p) =
      S.took
      (record {
        at = p.at;
        holder = p.holder;
        held = p.held;
        other = p.other;
        meets = p.meets;
        marks = λ x. takes (p.marks x);
        opened = a.claims.opened ∙ p.opened;
        numbers = then p.numbers a.claims.numbers;
        workers = workers p.workers;
        literals = passes p.literals;
      })
