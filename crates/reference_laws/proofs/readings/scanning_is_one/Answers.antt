use Rattle.reference_parser.specs.Scanned.{front, no_text}
use Rattle.reference_laws.proofs.Scanning.{scans, scanned_only}
use Rattle.reference_laws.proofs.readings.scanning_is_one.Goals as goal

pub returns : goal.returns
returns c = record {
  front = λ source ts stop. (λ e. scans source (front ts stop) e, λ h. scanned_only source (front ts stop) h);
  no_text = λ source line. (λ e. scans source (no_text line) e, λ h. scanned_only source (no_text line) h);
}
