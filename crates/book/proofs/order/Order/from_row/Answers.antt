use Rattle.std.proofs.Common.{◌≡◌, true, sym, refl, ◌∙◌, subst}
use Rattle.fields.specs.Fields.{PairField, LabelField}
use Rattle.fields.specs.Forms.{paired, labelled}
use Rattle.fields.specs.Ranges.{PriceCount, AmountCount}
use Rattle.fields.specs.Tests.{paired_decides, labelled_decides}
use Rattle.fields.proofs.Sames.{pair_same, label_same, price_same, amount_same}
use Rattle.book.specs.Rows.{whole_order, Formed, Remakes}
use Rattle.book.specs.Packing.{same_order}
use Rattle.book.proofs.Reading.{read_as, not_read}
use Rattle.book.proofs.order.Order.from_row.Goals as goal

pub returns-in_err-ok : goal.returns-in_err-ok
returns-in_err-ok g c =
    let r = c.args.row.now in
    let none = not_read PairField (λ v. v.bytes) r.pair c.read.result c.read.ensures (sym c.in_err-ok.was ∙ c.ok.ensures.value) in
    subst (λ z. Remakes g.T.Terms.given r z) (sym c.from_residual.ensures) (λ f. none r.pair ((paired_decides r.pair).0 f.pair, refl))

pub returns-in_err-ok-2 : goal.returns-in_err-ok-2
returns-in_err-ok-2 g c =
    let r = c.args.row.now in
    let none = not_read (LabelField 15) (λ v. v.bytes) r.id c.read-2.result c.read-2.ensures (sym c.in_err-ok-2.was ∙ c.ok-2.ensures.value) in
    subst (λ z. Remakes g.T.Terms.given r z) (sym c.from_residual-in_err-ok-2.ensures) (λ f. none r.id ((labelled_decides 15 r.id).0 f.id, refl))

pub returns : goal.returns
returns g c =
    let r = c.args.row.now in
    let pair = c.in_ok-ok.field-0 in
    let id = c.in_ok-ok-2.field-0 in
    let price = c.in_ok-from_count.field-0 in
    let amount = c.in_ok-from_count-2.field-0 in
    let pair_is = (read_as PairField (λ v. v.bytes) r.pair c.read.result pair c.read.ensures c.in_ok-ok.ensures.value).1 in
    let id_is = (read_as (LabelField 15) (λ v. v.bytes) r.id c.read-2.result id c.read-2.ensures c.in_ok-ok-2.ensures.value).1 in
    let price_is = c.in_ok-from_count.ensures in
    let amount_is = c.in_ok-from_count-2.ensures in
    let f : Formed r = record {
      pair = subst (λ z. paired z ≡ true) pair_is pair.ok;
      id = subst (λ z. labelled 15 z ≡ true) id_is id.ok;
      price = subst PriceCount price_is price.ok;
      amount = subst AmountCount amount_is amount.ok;
    } in
    let o = whole_order g.T.Terms.given r f in
    (f, same_order _ o (pair_same pair o.pair pair_is) refl (label_same 15 id o.id id_is) (price_same price o.price price_is) (amount_same amount o.amount amount_is) c.from_row.ensures)
