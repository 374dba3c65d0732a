use Rattle.std.proofs.Common.{◌∙◌, sym, ap, length}
use Rattle.mesh_time_days.proofs.TextLaws.{date_parts, date_text_length, date_text_same}
use Rattle.mesh_time_days.proofs.days.date_in.Goals as goal

pub returns-then-text-ne10 : goal.returns-then-text-ne10
returns-then-text-ne10 c = λ d year e. absurd (c.if-text-ne10.true (ap length e ∙ date_text_length d))

pub returns-in-None : goal.returns-in-None
returns-in-None c = λ d year e.
    let p = date_parts d c.args.text.now _ _ _ _ year e c.two_at-century.ensures.value c.two_at.ensures.value c.two_at-month.ensures.value c.two_at-day.ensures.value in
    c.in-None.ensures d year p.0 p.1 p.2

pub returns-then-same_bytes : goal.returns-then-same_bytes
returns-then-same_bytes c =
    (c.in-Some.ensures.0, c.same_bytes.ensures.0 c.if-same_bytes.true ∙ c.as_slice.ensures ∙ c.date_text.ensures)

pub returns-else-same_bytes : goal.returns-else-same_bytes
returns-else-same_bytes c = λ d year e.
    let p = date_parts d c.args.text.now _ _ _ _ year e c.two_at-century.ensures.value c.two_at.ensures.value c.two_at-month.ensures.value c.two_at-day.ensures.value in
    let q = c.in-Some.ensures in
    let same = date_text_same d c.in-Some.date (p.0 ∙ sym q.1) (p.1 ∙ sym q.2) (p.2 ∙ sym q.3) in
    absurd (cc (c.same_bytes.ensures.1 (e ∙ same ∙ sym c.date_text.ensures ∙ sym c.as_slice.ensures)))
