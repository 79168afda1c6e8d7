-- A job's lists, from slices that are one each. Assumes nothing.
use Rattle.std.proofs.Common.{◌≡◌, ap, ◌∙◌, List, ℕ, ℤ}
use Rattle.laws.specs.Lists.{Lists, job_lists}

pub lists_same : (l : Lists) {ps : List ℤ} {ts es ks : List ℕ} {qs : List ℤ} → ps ≡ l.points → ts ≡ l.triangles → es ≡ l.kept → ks ≡ l.inner → qs ≡ l.table → job_lists ps ts es ks qs ≡ l
lists_same l {ps} {ts} {es} {ks} {qs} p t e k q =
    ap (λ (x : List ℤ). job_lists x ts es ks qs) p
    ∙ ap (λ (x : List ℕ). job_lists l.points x es ks qs) t
    ∙ ap (λ (x : List ℕ). job_lists l.points l.triangles x ks qs) e
    ∙ ap (λ (x : List ℕ). job_lists l.points l.triangles l.kept x qs) k
    ∙ ap (λ (x : List ℤ). job_lists l.points l.triangles l.kept l.inner x) q
