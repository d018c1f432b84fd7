use Rattle.std.proofs.Common.{ℕ, ◌≡◌, refl, subst, List, Bor, Option, option_map}
use Rattle.std.specs.Prelude.{option_and_then}
use Rattle.toml.specs.Data.{as_str}
use Rattle.toml.specs.View.{view}
use Rattle.rec_words.specs.SetupFile.{attribute_said}
use Rattle.ch11_setup.specs.Attributes.{attribute_of}
use Rattle.rec_words.specs.declared.setup_file.AddedAttribute.{AddedAttribute}
use Rattle.rec_words.specs.SetupViews.{attribute_data}
use Rattle.rec_words.proofs.SetupRead.{said_more}
use Rattle.rec_words.proofs.setup_file.attributes.attributes_of.Goals as goal

pub values-preserved : goal.values-preserved
values-preserved c =
    let one : AddedAttribute = record { name = c.in_ok-from_str.field-0; value = c.in_ok-from_str-2.field-0 } in
    let attribute = attribute_of c.in-Some.name.now c.in-Some.value.now in
    let is : attribute_data one ≡ attribute = rw (c.in_ok-from_str.ensures.ok, c.in_ok-from_str-2.ensures.ok) refl in
    said_more c.args.values.now c.values.value-index c.value-item.result c.values.attributes.items c.push.new.self.items one attribute
    c.values-test.true c.value-item.is c.in_ok-push.ensures.items is
    (subst (λ (found : Option (Bor (List ℕ) × Bor (List ℕ))). option_map (λ parts. attribute_of parts.0.now parts.1.now) found
    ≡ option_and_then attribute_said (as_str (view c.value-item.result))) c.in-Some.is c.in_ok-name.ensures)
    c.values.invariant
