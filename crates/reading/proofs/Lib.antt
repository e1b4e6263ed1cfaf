pub mod ToldLaw
pub mod Said
pub mod HeadLaw
pub mod ChartLaw
pub mod ChartSaid
